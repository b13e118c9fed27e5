use Rattle.point_listing.specs.Forms.{forms_seen}
use Rattle.extraction.proofs.ListingLemmas.{all_asked}
use Rattle.extraction.proofs.flow_lister.FlowListerLister.forms.Goals as goal

pub returns-clause-asked : goal.returns-clause-asked
returns-clause-asked c = all_asked c.args.self.now.tables c.args.name (forms_seen c.in_ok-forms.forms.items) c.requires c.in_ok-forms.ensures
