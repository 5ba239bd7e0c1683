-- Which addresses are free fixes the holes: two sound lists with the same vacant addresses are one list, and in a list an address lies in
-- one hole. Assumes nothing.
use mathlib.Core.Path.{◌≡◌, refl, sym, ap, subst, ◌∙◌}
use mathlib.Core.List.Memᴰ
use mathlib.Core.List.{List, [], ◌∷◌, ◌++◌, Memᴰ}
use Prim.Native.Nat.{ℕ, ◌+◌, ◌≤◌, ◌<◌}
use native.Mathlib.Omega.{arith}
use Rattle.rules.specs.declared.Hole.{Hole}
use Rattle.rules.specs.declared.Heap.{Heap}
use Rattle.rules.specs.Kinds.{addr}
use Rattle.rules.specs.Holes.{hole}
use Rattle.rules.specs.InWords.{end_of, SoundHoles, Vacant}
use Rattle.rules.proofs.Cases.{by_le, some_first, some_later, some_cases}
use Rattle.rules.proofs.SoundWords.{Apart}
use Rattle.rules.proofs.Cover.{Inside}

-- what holds the address y
abbrev At : ℕ → Hole → Type 0
At y k = Inside k y

-- ---- holes with bytes between

-- the holes lie from lo on, none is empty, and between the end of one and the start of the next there are bytes
abbrev Spaced : ℕ → List Hole → Type 0
Spaced lo [] = Unit {0}
Spaced lo (k ∷ ks) = (lo ≤ k.addr.0) × (1 ≤ k.size) × Spaced (end_of k + 1) ks

apart_spaced : (lo : ℕ) (ks : List Hole) → ((k : Hole) (back : List Hole) → ks ≡ k ∷ back → lo ≤ k.addr.0)
    → ((k : Hole) → Memᴰ k ks → 16 ≤ k.size) → Apart ks → Spaced lo ks
apart_spaced lo [] f each a = tt
apart_spaced lo (k ∷ ks) f each a = (
  f k ks refl,
  omega (arith, each k (Memᴰ.head refl)),
  apart_spaced (end_of k + 1) ks
      (λ j back e. omega (arith, a [] back k j (ap (λ (js : List Hole). k ∷ js) e)))
      (λ j m. each j (Memᴰ.tail m))
      (λ front back i j e. a (k ∷ front) back i j (ap (λ (js : List Hole). k ∷ js) e)),
)

sound_spaced : (h : Heap) (ks : List Hole) → SoundHoles h ks → Spaced 0 ks
sound_spaced h ks s = apart_spaced 0 ks (λ k back e. omega arith) (λ k m. (s.each k m).sixteen) s.rise

vacant_from : (lo : ℕ) (ks : List Hole) (y : ℕ) → Spaced lo ks → Vacant ks y → lo ≤ y
vacant_from lo [] y s v = absurd (Memᴰ.not-nil v.1)
vacant_from lo (k ∷ ks) y s v =
    some_cases (At y) v (λ w. omega arith) (λ u. omega (arith, vacant_from (end_of k + 1) ks y s.2 u))

-- ---- two lists with the same vacant addresses

-- what is vacant in ks is vacant in ls
abbrev Covers : List Hole → List Hole → Type 0
Covers ls ks = (y : ℕ) → Vacant ks y → Vacant ls y

module _ (lo : ℕ) (k l : Hole) (ks ls : List Hole) (s : Spaced lo (k ∷ ks)) (t : Spaced lo (l ∷ ls)) (c : Covers (l ∷ ls) (k ∷ ks)) where
  -- the first hole of the covering list starts no later
  starts : l.addr.0 ≤ k.addr.0
  starts =
      vacant_from l.addr.0 (l ∷ ls) k.addr.0 (omega arith, t.1, t.2)
      (c k.addr.0 (some_first (At k.addr.0) (omega arith)))

  -- and if both start together it ends no earlier
  ends : k.addr.0 ≡ l.addr.0 → end_of k ≤ end_of l
  ends e =
      by_le (end_of k) (end_of l) (λ n. n)
      (λ n.
      let y = end_of l in
      some_cases (At y) (c y (some_first (At y) (omega arith)))
      (λ w. absurd (omega arith))
      (λ v. absurd (omega (arith, vacant_from (end_of l + 1) ls y t.2 v))))

  -- and if both end together the rest covers the rest
  rests : end_of k ≡ end_of l → Covers ls ks
  rests e y v =
      some_cases (At y) (c y (some_later (At y) v))
      (λ w. absurd (omega (arith, vacant_from (end_of k + 1) ks y s.2 v)))
      (λ u. u)

spaced_one : (lo : ℕ) (ks ls : List Hole) → Spaced lo ks → Spaced lo ls → Covers ls ks → Covers ks ls → ks ≡ ls
spaced_one lo [] [] s t c d = refl
spaced_one lo [] (l ∷ ls) s t c d = absurd (Memᴰ.not-nil (d l.addr.0 (some_first (At l.addr.0) (omega arith))).1)
spaced_one lo (k ∷ ks) [] s t c d = absurd (Memᴰ.not-nil (c k.addr.0 (some_first (At k.addr.0) (omega arith))).1)
spaced_one lo (k ∷ ks) (l ∷ ls) s t c d =
    let a : k.addr.0 ≡ l.addr.0 = omega (arith, starts lo k l ks ls s t c, starts lo l k ls ks t s d) in
    let e : end_of k ≡ end_of l = omega (arith, ends lo k l ks ls s t c a, ends lo l k ls ks t s d (sym a)) in
    let z : k.size ≡ l.size = omega arith in
    let rest = spaced_one (end_of k + 1) ks ls s.2 (rw e t.2) (rests lo k l ks ls s t c e) (rests lo l k ls ks t s d (sym e)) in
    λ i. hole (addr (a i)) (z i) ∷ rest i

pub one_list : (h g : Heap) (ks ls : List Hole) → SoundHoles h ks → SoundHoles g ls
    → ((y : ℕ) → Vacant ks y → Vacant ls y) → ((y : ℕ) → Vacant ls y → Vacant ks y) → ks ≡ ls
one_list h g ks ls s t c d = spaced_one 0 ks ls (sound_spaced h ks s) (sound_spaced g ls t) c d

-- ---- an address in a list

-- behind a hole of the list no other holds its addresses
once_more : (lo : ℕ) (k k' : Hole) (front back : List Hole) (x : ℕ) → Spaced lo (k ∷ (front ++ (k' ∷ back)))
    → x < end_of k → Inside k' x → ⊥
once_more lo k k' front back x s l w =
    omega (
      arith,
      vacant_from (end_of k + 1) (front ++ (k' ∷ back)) x s.2 (k', Memᴰ.append_right front (Memᴰ.head refl), w),
    )

spaced_place : (lo : ℕ) (front front' back back' : List Hole) (k k' : Hole) (x : ℕ) → Spaced lo (front ++ (k ∷ back))
    → front ++ (k ∷ back) ≡ front' ++ (k' ∷ back') → Inside k x → Inside k' x
    → (front ≡ front') × (k ≡ k') × (back ≡ back')
spaced_place lo [] [] back back' k k' x s e w w' = (refl, cc, cc)
spaced_place lo [] (j ∷ front') back back' k k' x s e w w' =
    let first : k ≡ j = cc in
    absurd (once_more lo j k' front' back' x (subst (Spaced lo) e s) (rw first at w.1) w')
spaced_place lo (j ∷ front) [] back back' k k' x s e w w' =
    let first : k' ≡ j = cc in
    absurd (once_more lo j k front back x s (rw first at w'.1) w)
spaced_place lo (j ∷ front) (j' ∷ front') back back' k k' x s e w w' =
    let first : j ≡ j' = cc in
    let rest : front ++ (k ∷ back) ≡ front' ++ (k' ∷ back') = cc in
    let (f, one, b) = spaced_place (end_of j + 1) front front' back back' k k' x s.2 rest w w' in
    (cc, one, b)

pub one_place : (h : Heap) (ks front front' back back' : List Hole) (k k' : Hole) (x : ℕ) → SoundHoles h ks
    → ks ≡ front ++ (k ∷ back) → ks ≡ front' ++ (k' ∷ back')
    → k.addr.0 ≤ x → x < end_of k → k'.addr.0 ≤ x → x < end_of k'
    → (front ≡ front') × (k ≡ k') × (back ≡ back')
one_place h ks front front' back back' k k' x s e e' a b a' b' =
    spaced_place 0 front front' back back' k k' x (rw e at (sound_spaced h ks s)) (sym e ∙ e') (a, b) (a', b')
