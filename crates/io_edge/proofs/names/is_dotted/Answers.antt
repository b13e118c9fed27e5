use Rattle.std.proofs.Common.{◌≡◌, [], ◌∷◌, Bool, nat_eq}
use Rattle.std.specs.List.{starts_with}
use Rattle.std.specs.Path.{dot, slash}
use Rattle.std.proofs.lemmas.Str.Pattern.{starts_text}
use Rattle.io_edge.proofs.NameLemmas.{or_first, or_second}
use Rattle.io_edge.proofs.names.is_dotted.Goals as goal

pub returns-then-starts_with : goal.returns-then-starts_with
returns-then-starts_with c =
    let here : c.starts_with.result ≡ starts_with nat_eq c.args.name.now (dot ∷ slash ∷ []) = starts_text c.starts_with.result (dot ∷ slash ∷ []) c.args.name.now c.starts_with.ensures.cases in
    or_first c.starts_with.result (starts_with nat_eq c.args.name.now (dot ∷ slash ∷ [])) (starts_with nat_eq c.args.name.now (dot ∷ dot ∷ slash ∷ [])) here c.if-starts_with.true

pub returns-else-starts_with : goal.returns-else-starts_with
returns-else-starts_with c =
    let here : c.starts_with.result ≡ starts_with nat_eq c.args.name.now (dot ∷ slash ∷ []) = starts_text c.starts_with.result (dot ∷ slash ∷ []) c.args.name.now c.starts_with.ensures.cases in
    let above : c.starts_with-else-starts_with.result ≡ starts_with nat_eq c.args.name.now (dot ∷ dot ∷ slash ∷ []) =
    starts_text c.starts_with-else-starts_with.result (dot ∷ dot ∷ slash ∷ []) c.args.name.now c.starts_with-else-starts_with.ensures.cases in
    or_second c.starts_with.result c.starts_with-else-starts_with.result (starts_with nat_eq c.args.name.now (dot ∷ slash ∷ [])) (starts_with nat_eq c.args.name.now (dot ∷ dot ∷ slash ∷ [])) here c.if-starts_with.false above
