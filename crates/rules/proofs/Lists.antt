-- Lists of holes in memory: what the heads hold is read as a list, and the heads written for a list are read as that list. Assumes nothing.
use mathlib.Core.Path.{◌≡◌, refl, sym, ap, ◌∙◌}
use mathlib.Core.List.{List, [], ◌∷◌, ◌++◌}
use Prim.Native.Nat.{ℕ, zero, suc, ◌+◌, ◌-◌, ◌^◌, ◌≤◌, ◌<◌}
use native.Mathlib.Nat.{add-sub_cancel_left}
use native.Mathlib.Omega.{arith}
use lib.ListN.{length, get_or}
use borrow.Author.Tests.{ne_eqb}
use Rattle.rules.specs.declared.Addr.{Addr}
use Rattle.rules.specs.declared.Place.{Place}
use Rattle.rules.specs.declared.Head.{Head}
use Rattle.rules.specs.declared.Hole.{Hole}
use Rattle.rules.specs.declared.Heap.{Heap}
use Rattle.rules.specs.Fixed.{min_size}
use Rattle.rules.specs.Kinds.{addr_of, place_of, place, none}
use Rattle.rules.specs.Holes.{hole, head_at, put_head, holes_from, first_of, put_heads}
use Rattle.rules.specs.Sound.{most, holes}
use Rattle.rules.specs.Inner.{Bytes, first_or, put_heads_to, Fair, Rises}
use Rattle.rules.proofs.Cases.{by_eq, by_le}
use Rattle.rules.proofs.Words.{Agree}
use Rattle.rules.proofs.Heads.{put_head_length, put_head_below, put_head_above, put_head_bytes, head_agree, head_back}
use Rattle.rules.proofs.Rises.{rises_le}

-- ---- head by head

pub from_none : (n : ℕ) (base : Addr) (m : List ℕ) → holes_from n base m none ≡ []
unfolding holes_from
from_none zero base m = refl
from_none (suc n) base m = refl

pub from_step : (n : ℕ) (base : Addr) (m : List ℕ) (p : Place) → (p.0 ≡ none.0 → ⊥)
    → holes_from (suc n) base m p ≡ hole (addr_of base p) (head_at m p).size ∷ holes_from n base m (head_at m p).next
unfolding holes_from
from_step n base m p h = rw (ne_eqb p.0 none.0 h, holes_from)

-- no place, or a place
pub by_none {ℓ} : {X : Type ℓ} (p : Place) → (p ≡ none → X) → ((p.0 ≡ none.0 → ⊥) → X) → X
by_none p f g = by_eq p.0 none.0 (λ e. f (ap place e)) g

-- there and back through the base
pub place_back : (base : Addr) (p : Place) → place_of base (addr_of base p) ≡ p
place_back base p = ap place (add-sub_cancel_left base.0 p.0)

pub addr_back : (base a : Addr) → base.0 ≤ a.0 → addr_of base (place_of base a) ≡ a
addr_back base a l = let e : base.0 + (a.0 - base.0) ≡ a.0 = omega arith in rw e

pub first_from : (n : ℕ) (base : Addr) (m : List ℕ) (p : Place) → first_of base (holes_from (suc n) base m p) ≡ p
unfolding first_of
first_from n base m p =
    by_none p
    (λ e. rw (e, from_none (suc n) base m))
    (λ e. rw (from_step n base m p e) (place_back base p))

-- the holes of a heap that is opened
pub holes_read : (h : Heap) (m : List ℕ) → Fair h → holes h m ≡ holes_from (suc (most h)) h.base m h.first
unfolding holes
holes_read h m f = rw (ne_eqb h.bottom.0 0 (λ z. omega arith))

-- ---- heads that stand in memory

pub first_or_lem : (base : Addr) (ks : List Hole) → first_of base ks ≡ first_or base ks none
unfolding first_of
first_or_lem base [] = refl
first_or_lem base (k ∷ ks) = refl

pub first_append : (base : Addr) (xs ys : List Hole) (q : Place) → first_or base (xs ++ ys) q ≡ first_or base xs (first_or base ys q)
first_append base [] ys q = refl
first_append base (k ∷ xs) ys q = refl

-- each hole's head stands in m, with the place of the next hole; the last leads to q
abbrev pub Holds : Addr → List ℕ → List Hole → Place → Type 0
Holds base m [] q = Unit {0}
Holds base m (k ∷ ks) q =
    (head_at m (place_of base k.addr) ≡ record { size = k.size; next = first_or base ks q }) × Holds base m ks q

pub holds_split : (base : Addr) (m : List ℕ) (xs ys : List Hole) (q : Place)
    → Holds base m (xs ++ ys) q → Holds base m xs (first_or base ys q) × Holds base m ys q
holds_split base m [] ys q s = (tt, s)
holds_split base m (k ∷ xs) ys q s =
    let r = holds_split base m xs ys q s.1 in
    ((rw (first_append base xs ys q) at s.0, r.0), r.1)

-- the heads of a list that was read to its end stand there
pub holds_from : (n : ℕ) (base : Addr) (m : List ℕ) (p : Place) → length (holes_from n base m p) < n
    → Holds base m (holes_from n base m p) none × (first_of base (holes_from n base m p) ≡ p)
holds_from zero base m p l = absurd (omega arith)
holds_from (suc n) base m p l = (
  by_none p
      (λ e. rw (e, from_none (suc n) base m) tt)
      (λ e.
      let s = from_step n base m p e in
      let ks = holes_from n base m (head_at m p).next in
      let l' : suc (length ks) < suc n = rw s at l in
      let ih = holds_from n base m (head_at m p).next (omega arith) in
      let next : first_or base ks none ≡ (head_at m p).next = sym (first_or_lem base ks) ∙ ih.1 in
      rw s (rw (place_back base p, next), ih.0)),
  first_from n base m p,
)

-- and heads that stand are read, where the bounds keep each place apart from no place
from_holds : (n : ℕ) (base : Addr) (lo hi : ℕ) (m : List ℕ) (ks : List Hole)
    → base.0 ≤ lo → hi < 2 ^ 64 - 1 → Rises lo hi ks → length ks ≤ n → Holds base m ks none
    → holes_from n base m (first_of base ks) ≡ ks
unfolding first_of
from_holds n base lo hi m [] a b r l s = from_none n base m
from_holds zero base lo hi m (k ∷ ks) a b r l s = absurd (omega arith)
from_holds (suc n) base lo hi m (k ∷ ks) a b r l s =
    let p = place_of base k.addr in
    let e = k.addr.0 + k.size in
    let u = rises_le e hi ks r.2 in
    let ih = from_holds n base e hi m ks (omega arith) b r.2 (omega arith) s.1 in
    let f = first_or_lem base ks in
    let back = addr_back base k.addr (omega arith) in
    let one : hole (addr_of base p) (head_at m p).size ≡ k = rw (back, s.0) in
    let next : (head_at m p).next ≡ first_of base ks = rw s.0 (sym f) in
    from_step n base m p (λ q. omega (arith, q)) ∙ rw (one, next, ih)

-- ---- two memories with the same heads

-- the bytes of each hole's head are the same in both
abbrev pub SameHeads : Addr → List ℕ → List ℕ → List Hole → Type 0
SameHeads base m m' [] = Unit {0}
SameHeads base m m' (k ∷ ks) = Agree m m' (place_of base k.addr).0 min_size × SameHeads base m m' ks

-- it is enough that they agree wherever the holes may lie
pub same_heads : (base : Addr) (lo hi : ℕ) (m m' : List ℕ) (ks : List Hole) → base.0 ≤ lo → Rises lo hi ks
    → Agree m m' (lo - base.0) (hi - lo) → SameHeads base m m' ks
same_heads base lo hi m m' [] a r g = tt
same_heads base lo hi m m' (k ∷ ks) a r g =
    let e = k.addr.0 + k.size in
    let u = rises_le e hi ks r.2 in (
      λ j x y. g j (omega arith) (omega arith),
      same_heads base e hi m m' ks (omega arith) r.2 (λ j x y. g j (omega arith) (omega arith)),
    )

pub holds_same : (base : Addr) (m m' : List ℕ) (ks : List Hole) (q : Place) → SameHeads base m m' ks
    → Holds base m ks q → Holds base m' ks q
holds_same base m m' [] q g s = tt
holds_same base m m' (k ∷ ks) q g s =
    (sym (head_agree m m' (place_of base k.addr) g.0) ∙ s.0, holds_same base m m' ks q g.1 s.1)

-- a change outside the heads of the holes that are read leaves them
pub frame : (n : ℕ) (base : Addr) (m m' : List ℕ) (p : Place) → SameHeads base m m' (holes_from n base m p)
    → holes_from n base m' p ≡ holes_from n base m p
frame zero base m m' p g = unfold holes_from in refl
frame (suc n) base m m' p g =
    by_none p
    (λ e. rw e (from_none (suc n) base m' ∙ sym (from_none (suc n) base m)))
    (λ e.
    let g' = rw (from_step n base m p e) at g in
    let head : head_at m p ≡ head_at m' p =
    rw (place_back base p) at (head_agree m m' (place_of base (addr_of base p)) g'.0) in
    let rest = frame n base m m' (head_at m p).next g'.1 in
    rw (from_step n base m' p e, from_step n base m p e, ← head, rest))

-- ---- the heads of a list, written

pub heads_to : (base : Addr) (ks : List Hole) (m : List ℕ) → put_heads base ks m ≡ put_heads_to base ks none m
unfolding put_heads put_heads_to
heads_to base [] m = refl
heads_to base (k ∷ ks) m = rw (heads_to base ks m, first_or_lem base ks)

pub put_heads_to_length : (base : Addr) (ks : List Hole) (q : Place) (m : List ℕ) → length (put_heads_to base ks q m) ≡ length m
unfolding put_heads_to
put_heads_to_length base [] q m = refl
put_heads_to_length base (k ∷ ks) q m =
    put_head_length (put_heads_to base ks q m) (place_of base k.addr) (record { size = k.size; next = first_or base ks q })
    ∙ put_heads_to_length base ks q m

pub put_heads_to_bytes : (base : Addr) (ks : List Hole) (q : Place) (m : List ℕ) → Bytes m → Bytes (put_heads_to base ks q m)
unfolding put_heads_to
put_heads_to_bytes base [] q m s = s
put_heads_to_bytes base (k ∷ ks) q m s =
    put_head_bytes (put_heads_to base ks q m) (place_of base k.addr) (record { size = k.size; next = first_or base ks q })
    (put_heads_to_bytes base ks q m s)

-- the byte at j lies in no head: if it is not before a head, it is behind it
abbrev pub NoHead : Addr → ℕ → List Hole → Type 0
NoHead base j [] = Unit {0}
NoHead base j (k ∷ ks) =
    ((place_of base k.addr).0 ≤ j → (place_of base k.addr).0 + min_size ≤ j) × NoHead base j ks

-- of holes that rise, no head lies outside the bounds
pub no_head : (base : Addr) (lo hi j : ℕ) (ks : List Hole) → base.0 ≤ lo → Rises lo hi ks
    → (lo ≤ base.0 + j → hi ≤ base.0 + j) → NoHead base j ks
no_head base lo hi j [] a r o = tt
no_head base lo hi j (k ∷ ks) a r o =
    let e = k.addr.0 + k.size in
    let u = rises_le e hi ks r.2 in (
      λ x. let y = o (omega arith) in omega arith,
      no_head base e hi j ks (omega arith) r.2 (λ x. o (omega arith)),
    )

pub put_heads_to_outside : (base : Addr) (ks : List Hole) (q : Place) (m : List ℕ) (j : ℕ) → NoHead base j ks
    → get_or (put_heads_to base ks q m) j 0 ≡ get_or m j 0
unfolding put_heads_to
put_heads_to_outside base [] q m j o = refl
put_heads_to_outside base (k ∷ ks) q m j o =
    let m₁ = put_heads_to base ks q m in
    let p = place_of base k.addr in
    let h : Head = record { size = k.size; next = first_or base ks q } in
    let rest = put_heads_to_outside base ks q m j o.1 in
    by_le p.0 j
    (λ x. put_head_above m₁ p h j (o.0 x) ∙ rest)
    (λ x. put_head_below m₁ p h j x ∙ rest)

pub put_heads_length : (base : Addr) (ks : List Hole) (m : List ℕ) → length (put_heads base ks m) ≡ length m
put_heads_length base ks m = rw (heads_to base ks m) (put_heads_to_length base ks none m)

pub put_heads_bytes : (base : Addr) (ks : List Hole) (m : List ℕ) → Bytes m → Bytes (put_heads base ks m)
put_heads_bytes base ks m s = rw (heads_to base ks m) (put_heads_to_bytes base ks none m s)

pub heads_outside : (base : Addr) (ks : List Hole) (m : List ℕ) (j : ℕ) → NoHead base j ks
    → get_or (put_heads base ks m) j 0 ≡ get_or m j 0
heads_outside base ks m j o = rw (heads_to base ks m) (put_heads_to_outside base ks none m j o)

-- ---- what is written is read

first_lt : (base : Addr) (lo hi : ℕ) (ks : List Hole) (q : Place) → Rises lo hi ks → hi < 2 ^ 64 → q.0 < 2 ^ 64
    → (first_or base ks q).0 < 2 ^ 64
first_lt base lo hi [] q r u l = l
first_lt base lo hi (k ∷ ks) q r u l = omega (arith, rises_le (k.addr.0 + k.size) hi ks r.2)

-- the heads that were written stand there
put_holds : (base : Addr) (lo hi : ℕ) (m : List ℕ) (ks : List Hole) (q : Place)
    → base.0 ≤ lo → hi ≤ base.0 + length m → hi < 2 ^ 64 → q.0 < 2 ^ 64 → Rises lo hi ks
    → Holds base (put_heads_to base ks q m) ks q
unfolding put_heads_to
put_holds base lo hi m [] q a b u l r = tt
put_holds base lo hi m (k ∷ ks) q a b u l r =
    let e = k.addr.0 + k.size in
    let v = rises_le e hi ks r.2 in
    let m₁ = put_heads_to base ks q m in
    let p = place_of base k.addr in
    let h : Head = record { size = k.size; next = first_or base ks q } in
    let fits : p.0 + 16 ≤ length m₁ = omega (arith, put_heads_to_length base ks q m) in (
      head_back m₁ p h fits (omega arith) (first_lt base e hi ks q r.2 u l),
      holds_same base m₁ (put_head m₁ p h) ks q
          (same_heads base e hi m₁ (put_head m₁ p h) ks (omega arith) r.2 (λ j x y. sym (put_head_above m₁ p h j (omega arith))))
          (put_holds base e hi m ks q (omega arith) b u l r.2),
    )

pub read_back : (n : ℕ) (base : Addr) (lo hi : ℕ) (m : List ℕ) (ks : List Hole)
    → base.0 ≤ lo → hi ≤ base.0 + length m → hi < 2 ^ 64 - 1 → Rises lo hi ks → length ks ≤ n
    → holes_from n base (put_heads base ks m) (first_of base ks) ≡ ks
read_back n base lo hi m ks a b u r l =
    rw (heads_to base ks m)
    (from_holds n base lo hi (put_heads_to base ks none m) ks a u r l
    (put_holds base lo hi m ks none a b (omega arith) (omega arith) r))
