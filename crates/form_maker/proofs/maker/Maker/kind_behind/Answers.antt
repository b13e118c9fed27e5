use Rattle.std.proofs.Common.{ap}
use Rattle.dtd_model.specs.Table.{kind_of, cdata, id, idref, idrefs, nmtoken, nmtokens}
use Rattle.form_maker.specs.Making.{making_of}
use Rattle.form_maker.proofs.BehindNames.{kind_made, cdata_kept, id_kept, idref_kept, idrefs_kept, token_kept, tokens_kept}
use Rattle.form_maker.proofs.maker.Maker.kind_behind.Goals as goal

pub returns-in_ok-fetch-in-Cdata : goal.returns-in_ok-fetch-in-Cdata
returns-in_ok-fetch-in-Cdata c =
    λ es h.
    kind_made es (kind_of c.args.kind.now) cdata 1 (making_of c.args.self.now) (making_of c.fetch.new.self) (ap kind_of c.in-Cdata.is) (cdata_kept es (making_of c.args.self.now) h) c.in_ok-fetch-in-Cdata.ensures

pub returns-in_ok-fetch-in-Id : goal.returns-in_ok-fetch-in-Id
returns-in_ok-fetch-in-Id c =
    λ es h.
    kind_made es (kind_of c.args.kind.now) id 2 (making_of c.args.self.now) (making_of c.fetch-in-Id.new.self) (ap kind_of c.in-Id.is) (id_kept es (making_of c.args.self.now) h) c.in_ok-fetch-in-Id.ensures

pub returns-in_ok-fetch-in-Idref : goal.returns-in_ok-fetch-in-Idref
returns-in_ok-fetch-in-Idref c =
    λ es h.
    kind_made es (kind_of c.args.kind.now) idref 2 (making_of c.args.self.now) (making_of c.fetch-in-Idref.new.self) (ap kind_of c.in-Idref.is) (idref_kept es (making_of c.args.self.now) h) c.in_ok-fetch-in-Idref.ensures

pub returns-in_ok-fetch-in-Idrefs : goal.returns-in_ok-fetch-in-Idrefs
returns-in_ok-fetch-in-Idrefs c =
    λ es h.
    kind_made es (kind_of c.args.kind.now) idrefs 3 (making_of c.args.self.now) (making_of c.fetch-in-Idrefs.new.self) (ap kind_of c.in-Idrefs.is) (idrefs_kept es (making_of c.args.self.now) h) c.in_ok-fetch-in-Idrefs.ensures

pub returns-in_ok-fetch-in-Nmtoken : goal.returns-in_ok-fetch-in-Nmtoken
returns-in_ok-fetch-in-Nmtoken c =
    λ es h.
    kind_made es (kind_of c.args.kind.now) nmtoken 4 (making_of c.args.self.now) (making_of c.fetch-in-Nmtoken.new.self) (ap kind_of c.in-Nmtoken.is) (token_kept es (making_of c.args.self.now) h) c.in_ok-fetch-in-Nmtoken.ensures

pub returns-in_ok-fetch-in-Nmtokens : goal.returns-in_ok-fetch-in-Nmtokens
returns-in_ok-fetch-in-Nmtokens c =
    λ es h.
    kind_made es (kind_of c.args.kind.now) nmtokens 5 (making_of c.args.self.now) (making_of c.fetch-in-Nmtokens.new.self) (ap kind_of c.in-Nmtokens.is) (tokens_kept es (making_of c.args.self.now) h) c.in_ok-fetch-in-Nmtokens.ensures
