-- Lists, one more at a time.
use Rattle.std.proofs.Common.{◌≡◌, ◌∙◌, ℕ, zero, suc, ◌+◌, ◌<◌, ◌≤◌, List, [], ◌∷◌, ◌++◌, length, take, drop, get_or, set, map, Contains, refl, sym, ap, arith, add-one}

pub drop_at : {X : Type 0} (xs : List X) (i : ℕ) (d : X) → i < length xs → drop i xs ≡ get_or xs i d ∷ drop (i + 1) xs
drop_at [] i d h = absurd (omega (arith, h))
drop_at (y ∷ ys) zero d h = refl
drop_at (y ∷ ys) (suc i) d h = rw add-one (rw add-one at (drop_at ys i d (omega (arith, h))))

pub drop_none : {X : Type 0} (xs : List X) (i : ℕ) → length xs ≤ i → drop i xs ≡ []
drop_none [] zero h = refl
drop_none [] (suc i) h = refl
drop_none (y ∷ ys) zero h = absurd (omega (arith, h))
drop_none (y ∷ ys) (suc i) h = drop_none ys i (omega (arith, h))

pub take_more : {X : Type 0} (xs : List X) (i : ℕ) (d : X) → i < length xs → take (i + 1) xs ≡ take i xs ++ get_or xs i d ∷ []
take_more [] i d h = absurd (omega (arith, h))
take_more (y ∷ ys) zero d h = refl
take_more (y ∷ ys) (suc i) d h = rw add-one (ap (λ (zs : List _). y ∷ zs) (rw add-one at (take_more ys i d (omega (arith, h)))))

pub take_all : {X : Type 0} (xs : List X) (i : ℕ) → length xs ≤ i → take i xs ≡ xs
take_all [] zero h = refl
take_all [] (suc i) h = refl
take_all (y ∷ ys) zero h = absurd (omega (arith, h))
take_all (y ∷ ys) (suc i) h = ap (λ (zs : List _). y ∷ zs) (take_all ys i (omega (arith, h)))

pub append_nil : {X : Type 0} (xs : List X) → xs ++ [] ≡ xs
append_nil [] = refl
append_nil (x ∷ xs) = ap (λ (zs : List _). x ∷ zs) (append_nil xs)

pub append_same : {X : Type 0} (xs ys zs : List X) → (xs ++ ys) ++ zs ≡ xs ++ (ys ++ zs)
append_same [] ys zs = refl
append_same (x ∷ xs) ys zs = ap (λ (ws : List _). x ∷ ws) (append_same xs ys zs)

pub map_more : {X Y : Type 0} (f : X → Y) (xs ys : List X) → map f (xs ++ ys) ≡ map f xs ++ map f ys
map_more f [] ys = refl
map_more f (x ∷ xs) ys = ap (λ (zs : List _). f x ∷ zs) (map_more f xs ys)

pub map_set : {X Y : Type 0} (f : X → Y) (xs : List X) (k : ℕ) (v : X) → map f (set xs k v) ≡ set (map f xs) k (f v)
map_set f [] zero v = refl
map_set f [] (suc k) v = refl
map_set f (x ∷ xs) zero v = refl
map_set f (x ∷ xs) (suc k) v = ap (λ (zs : List _). f x ∷ zs) (map_set f xs k v)

pub map_get : {X Y : Type 0} (f : X → Y) (xs : List X) (k : ℕ) (d : X) → get_or (map f xs) k (f d) ≡ f (get_or xs k d)
map_get f [] zero d = refl
map_get f [] (suc k) d = refl
map_get f (x ∷ xs) zero d = refl
map_get f (x ∷ xs) (suc k) d = map_get f xs k d

pub map_contains : {X Y : Type 0} (f : X → Y) (xs : List X) (k : ℕ) (d : X) → k < length xs → Contains (map f xs) (f (get_or xs k d))
map_contains f [] k d h = absurd (omega (arith, h))
map_contains f (x ∷ xs) zero d h = (zero, omega arith, refl)
map_contains f (x ∷ xs) (suc k) d h = let more = map_contains f xs k d (omega (arith, h)) in (suc more.0, let less = more.1 in omega (arith, less), more.2)

pub drop_item : {X : Type 0} (xs : List X) (i : ℕ) (x : X) → i < length xs → x ≡ get_or xs i x → drop i xs ≡ x ∷ drop (i + 1) xs
drop_item xs i x less is = drop_at xs i x less ∙ ap (λ y. y ∷ drop (i + 1) xs) (sym is)

pub take_item : {X : Type 0} (xs : List X) (i : ℕ) (x : X) → i < length xs → x ≡ get_or xs i x → take (i + 1) xs ≡ take i xs ++ x ∷ []
take_item xs i x less is = take_more xs i x less ∙ ap (λ y. take i xs ++ y ∷ []) (sym is)

pub length_map : {X Y : Type 0} (f : X → Y) (xs : List X) → length (map f xs) ≡ length xs
length_map f [] = refl
length_map f (x ∷ xs) = let h = length_map f xs in omega (arith, h)

pub split_item : {X : Type 0} (xs : List X) (i : ℕ) (x : X) → i < length xs → x ≡ get_or xs i x → xs ≡ take i xs ++ x ∷ drop (i + 1) xs
split_item [] i x h is = absurd (omega (arith, h))
split_item (y ∷ ys) zero x h is = ap (λ z. z ∷ ys) (sym is)
split_item (y ∷ ys) (suc i) x h is = rw add-one (ap (λ (zs : List _). y ∷ zs) (rw add-one at (split_item ys i x (omega (arith, h)) is)))
