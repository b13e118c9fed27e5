-- Writing line after line.
use Rattle.std.proofs.Common.{◌≡◌, ℕ, ◌+◌, ◌≤◌, List, [], ◌++◌, length, take, Option, refl, sym, ◌∙◌, ap, subst, arith, append_assoc}
use Rattle.std.proofs.lemmas.List.{append-nil, length-append, take-append-le}
use Rattle.std.proofs.Math.Seq.{take-append-add}
use Rattle.std.specs.Io.KnownBytes.{Appends}
use Rattle.std.proofs.KnownBytes.{Appends-nil, Appends-trans}
use Rattle.io_edge.specs.Taken.{AppendsPrefix}

-- some of all bytes are written
pub record SoFar (old new : Option (List ℕ)) (all rest : List ℕ) : Type 0 where
  pub done : List ℕ
  pub appended : Appends old new done
  pub made : done ++ rest ≡ all

pub none_yet : (known : Option (List ℕ)) (all : List ℕ) → SoFar known known all all
none_yet known all = record { done = []; appended = Appends-nil known; made = refl }

pub part_more : (old mid new : Option (List ℕ)) (all rest after part : List ℕ) → SoFar old mid all rest → Appends mid new part → rest ≡ part ++ after → SoFar old new all after
part_more old mid new all rest after part s a is = record {
  done = s.done ++ part;
  appended = Appends-trans old mid new s.done part s.appended a;
  made = append_assoc s.done part after ∙ ap (λ (v : List ℕ). s.done ++ v) (sym is) ∙ s.made;
}

pub all_done : (old new : Option (List ℕ)) (all rest : List ℕ) → SoFar old new all rest → rest ≡ [] → Appends old new all
all_done old new all rest s none = subst (Appends old new) (sym (append-nil s.done) ∙ ap (λ (v : List ℕ). s.done ++ v) (sym none) ∙ s.made) s.appended

pub in_part : (old mid new : Option (List ℕ)) (all rest after part : List ℕ) → SoFar old mid all rest → AppendsPrefix mid new part → rest ≡ part ++ after → AppendsPrefix old new all
in_part old mid new all rest after part s a is =
    let k = a.0 in
    let l = length-append s.done part in
    let split : all ≡ (s.done ++ part) ++ after = sym s.made ∙ ap (λ (v : List ℕ). s.done ++ v) is ∙ sym (append_assoc s.done part after) in
    let within : length s.done + k ≤ length (s.done ++ part) = (let m = a.1 in omega (arith, l, m)) in
    let front : take (length s.done + k) all ≡ s.done ++ take k part =
    ap (take (length s.done + k)) split ∙ take-append-le (length s.done + k) (s.done ++ part) after within ∙ take-append-add s.done part k in
    let inside : length s.done + k ≤ length all = (let e = ap (λ (v : List ℕ). length v) split in let g = length-append (s.done ++ part) after in omega (arith, within, e, g)) in (
      length s.done + k,
      inside,
      subst (Appends old new) (sym front) (Appends-trans old mid new s.done (take k part) s.appended a.2),
    )
