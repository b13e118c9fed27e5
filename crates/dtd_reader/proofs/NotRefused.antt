-- A file that spells a table has none of the other causes of a refusal.
use Rattle.std.proofs.Common.{◌≡◌, ◌∙◌, ◌<◌, ◌≤◌, ℕ, Bool, true, false, List, [], length, Option, Some, None, sym, ap, subst, inl, inr, arith}
use Rattle.text_base.specs.declared.limits.TheConstants.{FILE_LIMIT}
use Rattle.io_edge.specs.Counts.{Rises}
use Rattle.std.specs.Prelude.{if◌then◌else◌}
use Rattle.io_edge.specs.Names.{beside, is_outside}
use Rattle.io_edge.specs.Told.{Told, unasked, untold, known, Content, Tells, HasAtLeast}
use Rattle.dtd_model.specs.Table.{Table}
use Rattle.dtd_texts.specs.Places.{external}
use Rattle.dtd_texts.specs.Reading.{State, Replacement, Stands, start, Written, is_among, source_of}
use Rattle.dtd_texts.specs.Causes.{Breaks, unlawful, unended, Omits, Refers, Misses, circular, undeclared, Asks, asks}
use Rattle.dtd_texts.specs.Spells.{ReadsAll, Says, DtdSpells, seen_from}
use Rattle.dtd_texts.specs.Tables.{Said, element_names}
use Rattle.dtd_texts.specs.Went as went
use Rattle.dtd_texts.proofs.Once.{reads_at}
use Rattle.dtd_tables.specs.Causes.{StandsTwice, GoesWrong}
use Rattle.dtd_reader.proofs.NothingWrong.{each_says, never_twice}
use Rattle.dtd_reader.specs.Source.{SourceCall}
use Rattle.dtd_reader.specs.Causes.{InFile, AsksFor, AsksOutside, IsAskedFor, BreaksFirst}
use Rattle.dtd_reader.specs.Refusals.{InDeclarations, IsCause}
use Rattle.dtd_reader.specs.declared.refusal.DtdRefusal.{DtdRefusal}
use Rattle.dtd_reader.specs.declared.refusal.DtdRefusal.TheVariants.{Missing, ReadFault, TooLong, Outside, NotDtd, Entity, Twice, Undeclared, LeftOut, Limit, Memory}
use Rattle.dtd_reader.specs.Certain.{AreTold, AreShort, IsForLimit}
use Rattle.dtd_reader.proofs.Told.{TellsFrom, reads_one, met_read}
use Rattle.dtd_reader.proofs.OneTable.{tells, one_file}

-- a text that is read to its end

no_break : {content : Content} {file : List ℕ} {at : ℕ} {last : State} → TellsFrom content [] start file → ReadsAll content file last → Breaks content file at → ⊥
no_break told all (unlawful outer s b bytes meets is there) = rw is at (reads_at (met_read told meets all.reads).reads)
no_break told all (unended s reads away there) = away (ap (λ (z : State). z.place) (sym (reads_one told all.reads reads)) ∙ all.whole)

no_omission : {content : Content} {file : List ℕ} {at : ℕ} {last : State} → TellsFrom content [] start file → ReadsAll content file last → Omits content file at → ⊥
no_omission told all o = rw o.is at (reads_at (met_read told o.meets all.reads).reads)

replaced : {content : Content} {file name : List ℕ} {outer : List (List ℕ)} {s last : State} → TellsFrom content [] start file → ReadsAll content file last →
    Refers content file name outer s → (by : Replacement) × (is_among outer name ≡ false) × Stands content s.file (source_of s.parameters name) by
replaced told all r =
    let there = rw r.is at (reads_at (met_read told r.meets all.reads).reads) in
    (there.by, there.shut, there.is)

no_miss : {content : Content} {file name : List ℕ} {last : State} → TellsFrom content [] start file → ReadsAll content file last → Misses content file name → ⊥
no_miss told all (circular outer s r open_) = let (by, shut, is) = replaced told all r in absurd (grind (arith, shut, open_))
no_miss {content = content} told all (undeclared outer s r none) = let (by, shut, is) = replaced told all r in subst (λ o. Stands content s.file o by) none is

pub asked_held : {content : Content} {file system : List ℕ} {last : State} → TellsFrom content [] start file → ReadsAll content file last → Asks content file system →
    (whole : List ℕ) × Tells (content system) (Some whole)
asked_held {content = content} {system = system} told all (asks name outer s r free outside) =
    let (by, shut, is) = replaced told all r in
    let stands : Stands content s.file (Some (external system)) by = subst (λ o. Stands content s.file o by) outside is in
    (stands.0.whole, stands.0.told)

-- a file that spells a table

pub in_file : {content : Content} {root name : List ℕ} {table : Table} {Holding : List ℕ → Type 0} → AreTold content root name → (p : DtdSpells content root name table) →
    InFile content name Holding → Holding p.file
in_file {Holding = Holding} told p f = subst Holding (one_file told f.held p.held) f.so

in_declarations : {content : Content} {root name : List ℕ} {table : Table} {Holding : List Written → Type 0} → AreTold content root name → (p : DtdSpells content root name table) →
    InDeclarations content root name Holding → Holding p.last.written
in_declarations {content = content} {root = root} {name = name} {Holding = Holding} told p d =
    let other : ReadsAll (seen_from root name content) p.file d.last = subst (λ f. ReadsAll (seen_from root name content) f d.last) (one_file told d.read.held p.held) d.read.all in
    subst (λ (s : State). Holding s.written) (reads_one (tells told p.held) other.reads p.read.reads) d.so

none_some : {whole : List ℕ} → ◌≡◌ {A = Option (List ℕ)} None (Some whole) → ⊥
none_some e = cc

seen_held : (b : Bool) (t : Told) (whole : List ℕ) → Tells (if b then known None else t) (Some whole) → Tells t (Some whole)
seen_held true t whole held = absurd (none_some held)
seen_held false t whole held = held

file_held : {content : Content} {root name path : List ℕ} {table : Table} → AreTold content root name → DtdSpells content root name table → IsAskedFor content root name path →
    (whole : List ℕ) × Tells (content path) (Some whole)
file_held {content = content} told p (inl e) = (p.held.whole, subst (λ x. Tells (content x) (Some p.held.whole)) (sym e) p.held.told)
file_held {content = content} {root = root} {name = name} {path = path} told p (inr f) =
    let asked : AsksFor content root name p.file path = in_file {Holding = λ file. AsksFor content root name file path} told p f in
    let (whole, held) = asked_held (tells told p.held) p.read asked.asks in
    (whole, subst (λ x. Tells (content x) (Some whole)) (sym asked.found) (seen_held (is_outside root name asked.meant) (content (beside name asked.meant)) whole held))

tells_file : (t : Told) (file : Option (List ℕ)) (whole : List ℕ) → t ≡ known file → Tells t (Some whole) → t ≡ known (Some whole)
tells_file unasked file whole e told = absurd told
tells_file untold file whole e told = absurd (grind arith)
tells_file (known f) file whole e told = ap known told

content_is : {content : Content} {root name path : List ℕ} {table : Table} → AreTold content root name → DtdSpells content root name table → IsAskedFor content root name path →
    (whole : List ℕ) × (content path ≡ known (Some whole))
content_is {content = content} {path = path} told p asked =
    let (whole, held) = file_held told p asked in
    (whole, tells_file (content path) (told path asked).0 whole (told path asked).1 held)

not_missing : (t : Told) (whole : List ℕ) → t ≡ known (Some whole) → Tells t None → ⊥
not_missing t whole is told =
    let same : Tells (known (Some whole)) None = subst (λ x. Tells x None) is told in
    cc

not_long : (t : Told) (whole : List ℕ) (len : ℕ) → t ≡ known (Some whole) → length whole ≤ FILE_LIMIT → FILE_LIMIT < len → HasAtLeast t len → ⊥
not_long t whole len is short over least =
    let at : HasAtLeast (known (Some whole)) len = subst (λ x. HasAtLeast x len) is least in
    omega (arith, at, over, short)

not_wrong : {written : List Written} {says : List Said} {at : ℕ} {how : went.Went Said} → Says written says → GoesWrong written at how → ((s : Said) → how ≡ went.leads s → ⊥) → ⊥
not_wrong all wrong never = let (s, is) = each_says _ _ _ _ all wrong in never s is

-- no file that is asked for from outside is there
not_outside : (b : Bool) (t : Told) (whole : List ℕ) → b ≡ true → Tells (if b then known None else t) (Some whole) → ⊥
not_outside true t whole e held = none_some held
not_outside false t whole e held = grind (arith, e)

pub for_limits : (call : SourceCall) (root name : List ℕ) (table : Table) (refusal : DtdRefusal) → AreTold call.content root name → AreShort call.content root name →
    DtdSpells call.content root name table → (Rises call.faults call.faults' → ⊥) → IsCause call root name refusal → IsForLimit call.content root name refusal
for_limits call root name table (Missing path) told short p calm (asked, why) =
    let (whole, is) = content_is told p asked in not_missing (call.content path) whole is why.1
for_limits call root name table (ReadFault path) told short p calm (asked, why) = calm why.0
for_limits call root name table (TooLong path len) told short p calm (asked, why) =
    let (whole, is) = content_is told p asked in not_long (call.content path) whole len is (short path whole asked is) why.0 why.1
for_limits call root name table (Outside path) told short p calm (f, free) =
    let asked : AsksOutside call.content root name p.file path = in_file {Holding = λ file. AsksOutside call.content root name file path} told p f in
    let (whole, held) = asked_held (tells told p.held) p.read asked.asks in
    not_outside (is_outside root name asked.meant) (call.content (beside name asked.meant)) whole asked.outside held
for_limits call root name table (NotDtd at) told short p calm (inl f, free) =
    no_break (tells told p.held) p.read (in_file {Holding = λ file. BreaksFirst (seen_from root name call.content) file at} told p f).breaks
for_limits call root name table (NotDtd at) told short p calm (inr d, free) =
    not_wrong p.said (in_declarations {Holding = λ written. GoesWrong written at went.refused} told p d) (λ s e. cc)
for_limits call root name table (Entity entity) told short p calm (f, free) =
    no_miss (tells told p.held) p.read (in_file {Holding = λ file. Misses (seen_from root name call.content) file entity} told p f)
for_limits call root name table (Twice element) told short p calm (d, free) =
    never_twice p.last.written p.says element p.said (in_declarations {Holding = λ written. StandsTwice (element_names written) element} told p d)
for_limits call root name table (Undeclared element) told short p calm (d, free) =
    let (at, wrong) = in_declarations {Holding = λ written. (at : ℕ) × GoesWrong written at (went.undeclared element)} told p d in
    not_wrong p.said wrong (λ s e. cc)
for_limits call root name table (LeftOut at) told short p calm (inl f, free) =
    no_omission (tells told p.held) p.read (in_file {Holding = λ file. Omits (seen_from root name call.content) file at} told p f)
for_limits call root name table (LeftOut at) told short p calm (inr d, free) =
    not_wrong p.said (in_declarations {Holding = λ written. GoesWrong written at went.left_out} told p d) (λ s e. cc)
for_limits call root name table (Limit count) told short p calm (why, free) = why
for_limits call root name table Memory told short p calm free = tt
