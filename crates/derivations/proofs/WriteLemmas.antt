-- Writing part after part.
use Rattle.std.proofs.Common.{◌≡◌, ℕ, zero, suc, ◌+◌, ◌-◌, ◌<◌, ◌≤◌, ◌⊎◌, inl, inr, List, [], ◌∷◌, ◌++◌, length, take, drop, min, Option, refl, sym, ◌∙◌, ap, subst, arith, append_assoc}
use Rattle.std.proofs.lemmas.List.{append-nil, length-append, length-take, take-append-le, take-append-drop}
use Rattle.std.proofs.Math.Seq.{take-append_seam, take-append-add}
use Rattle.std.specs.Io.KnownBytes.{Appends}
use Rattle.std.proofs.KnownBytes.{Appends-nil, Appends-trans}
use Rattle.io_edge.specs.Taken.{AppendsPrefix}

-- some of all bytes are written, and so many more may be
pub record SoFar (old new : Option (List ℕ)) (all rest : List ℕ) (most left : ℕ) : Type 0 where
  pub done : List ℕ
  pub appended : Appends old new done
  pub made : done ++ rest ≡ all
  pub count : length done + left ≡ most

pub none_yet : (known : Option (List ℕ)) (all : List ℕ) (most : ℕ) → SoFar known known all all most most
none_yet known all most = record { done = []; appended = Appends-nil known; made = refl; count = omega arith }

pub part_more : (old mid new : Option (List ℕ)) (all rest after chunk : List ℕ) (most left less : ℕ) → SoFar old mid all rest most left → Appends mid new chunk → chunk ++ after ≡ rest → length chunk ≤ left → less ≡ left - length chunk → SoFar old new all after most less
part_more old mid new all rest after chunk most left less s a made few is = record {
  done = s.done ++ chunk;
  appended = Appends-trans old mid new s.done chunk s.appended a;
  made = append_assoc s.done chunk after ∙ ap (λ (v : List ℕ). s.done ++ v) made ∙ s.made;
  count = let l = length-append s.done chunk in let c = s.count in omega (arith, l, c, few, is);
}

taken : (xs ys : List ℕ) (n : ℕ) → length xs ≡ n → take n (xs ++ ys) ≡ xs
taken xs ys n e = ap (λ (k : ℕ). take k (xs ++ ys)) (sym e) ∙ take-append_seam xs ys

-- all that may be written is
pub all_left : (old new : Option (List ℕ)) (all rest : List ℕ) (most left : ℕ) → SoFar old new all rest most left → left ≡ 0 → Appends old new (take most all)
all_left old new all rest most left s none =
    let c = s.count in
    subst (Appends old new) (sym (ap (take most) (sym s.made) ∙ taken s.done rest most (omega (arith, c, none)))) s.appended

take_all : (xs : List ℕ) (n : ℕ) → length xs ≤ n → take n xs ≡ xs
take_all [] zero h = refl
take_all [] (suc n) h = refl
take_all (x ∷ xs) zero h = absurd (omega (arith, h))
take_all (x ∷ xs) (suc n) h = ap (λ (v : List ℕ). x ∷ v) (take_all xs n (omega (arith, h)))

long : (xs : List ℕ) (n m : ℕ) → m ≤ n → m ≤ length xs → m ≤ length (take n xs)
long xs n m h k = let l = length-take n xs in omega (arith, h, k, l)

take_twice : (xs : List ℕ) (m n : ℕ) → m ≤ n → m ≤ length xs → take m (take n xs) ≡ take m xs
take_twice xs m n h k = sym (take-append-le m (take n xs) (drop n xs) (long xs n m h k)) ∙ ap (take m) (take-append-drop n xs)

-- nothing is left
pub no_rest : (old new : Option (List ℕ)) (all rest : List ℕ) (most left : ℕ) → SoFar old new all rest most left → rest ≡ [] → Appends old new (take most all)
no_rest old new all rest most left s none =
    let c = s.count in
    let is : all ≡ s.done = sym s.made ∙ ap (λ (v : List ℕ). s.done ++ v) none ∙ append-nil s.done in
    subst (Appends old new) (sym (ap (take most) is ∙ take_all s.done most (omega (arith, c)))) s.appended

-- a chunk that is empty, where something may be written, leaves nothing
pub empty_chunk : (chunk after rest : List ℕ) (left : ℕ) → 0 < left → chunk ++ after ≡ rest → chunk ≡ [] → ((length chunk ≡ min left 4096) ⊎ (after ≡ [])) → rest ≡ []
empty_chunk chunk after rest left some made none full = elim full [
  | inl e ↦ absurd (let l = ap (λ (v : List ℕ). length v) none in omega (arith, some, e, l))
  | inr e ↦ sym made ∙ ap (λ (v : List ℕ). v ++ after) none ∙ e
]

-- a part that is written in part
pub in_part : (old mid new : Option (List ℕ)) (all rest after chunk : List ℕ) (most left : ℕ) → SoFar old mid all rest most left → AppendsPrefix mid new chunk → chunk ++ after ≡ rest → length chunk ≤ left → AppendsPrefix old new (take most all)
in_part old mid new all rest after chunk most left s a made few =
    let c = s.count in
    let k = a.0 in
    let l = length-append s.done chunk in
    let split : all ≡ (s.done ++ chunk) ++ after = sym s.made ∙ ap (λ (v : List ℕ). s.done ++ v) (sym made) ∙ sym (append_assoc s.done chunk after) in
    let small : length s.done + k ≤ most = (let m = a.1 in omega (arith, c, few, m)) in
    let front : take (length s.done + k) all ≡ s.done ++ take k chunk =
    ap (take (length s.done + k)) split
    ∙ take-append-le (length s.done + k) (s.done ++ chunk) after (let m = a.1 in omega (arith, l, m))
    ∙ take-append-add s.done chunk k in
    let inside : length s.done + k ≤ length all = (let m = a.1 in let e = ap (λ (v : List ℕ). length v) split in let g = length-append (s.done ++ chunk) after in omega (arith, l, m, e, g)) in (
      length s.done + k,
      long all most (length s.done + k) small inside,
      subst (Appends old new) (sym (take_twice all (length s.done + k) most small inside ∙ front)) (Appends-trans old mid new s.done (take k chunk) s.appended a.2),
    )
