-- A list of holes that changes in the middle: the heads of the middle are written, and the link to it where that is new. These few heads
-- stand for the whole new list. Assumes nothing.
use mathlib.Core.Path.{◌≡◌, refl, sym, ap, ◌∙◌}
use mathlib.Core.Bool.{false}
use mathlib.Core.List.{List, [], ◌∷◌, ◌++◌}
use Prim.Native.Nat.{ℕ, ◌+◌, ◌-◌, ◌^◌, ◌≤◌, ◌<◌}
use native.Mathlib.Omega.{arith}
use lib.ListN.{length}
use Rattle.std.proofs.Common.{Option}
use borrow.Author.Tests.{eqb-false, ne_eqb}
use Rattle.rules.specs.Fixed.{min_size}
use Rattle.rules.specs.Kinds.{place_of, none, is_none}
use Rattle.rules.specs.Holes.{head_at, first_of}
use Rattle.rules.specs.declared.Addr.{Addr}
use Rattle.rules.specs.declared.Place.{Place}
use Rattle.rules.specs.declared.Hole.{Hole}
use Rattle.rules.specs.declared.Write.{Write}
use Rattle.rules.specs.declared.Writes.{Writes}
use Rattle.rules.specs.Inner.{Bytes, first_or, put_heads_to, put, write, written, Lands, Leaves, Relinks, Rises, end_or}
use Rattle.rules.proofs.Rises.{rises_le, rises_widen, rises_front, rises_back}
use Rattle.rules.proofs.Lists.{first_or_lem, first_append, Holds}
use Rattle.rules.proofs.Relink.{link, relink, relink_same}
use Rattle.walk.specs.Walk.{last_place}
use Rattle.joining.specs.declared.Relinked.{Relinked}
use Rattle.joining.specs.Span.{linked_to}

-- ---- the last hole of a list

-- a list is empty or has a last hole
pub by_last {ℓ} : {X : Type ℓ} (ks : List Hole) → (ks ≡ [] → X) → ((front : List Hole) (k : Hole) → ks ≡ front ++ (k ∷ []) → X) → X
by_last [] f g = f refl
by_last (k ∷ ks) f g =
    by_last ks
    (λ e. g [] k (ap (λ (l : List Hole). k ∷ l) e))
    (λ front j e. g (k ∷ front) j (ap (λ (l : List Hole). k ∷ l) e))

-- the last of some holes has room for its head below their end
last_below : (base : Addr) (p : Place) (lo hi : ℕ) (k : Hole) (ks : List Hole) → base.0 ≤ lo → Rises lo hi (k ∷ ks)
    → base.0 + (last_place base p (k ∷ ks)).0 + min_size ≤ hi
unfolding last_place
last_below base p lo hi k [] a r = omega arith
last_below base p lo hi k (j ∷ js) a r =
    last_below base (place_of base k.addr) (k.addr.0 + k.size) hi j js (omega arith) r.2

-- so it lies at a place
pub last_place_lem : (base : Addr) (p : Place) (lo hi : ℕ) (k : Hole) (ks : List Hole) → base.0 ≤ lo → hi < 2 ^ 64 - 1 → Rises lo hi (k ∷ ks)
    → is_none (last_place base p (k ∷ ks)) ≡ false
last_place_lem base p lo hi k ks a b r =
    let l = last_below base p lo hi k ks a r in
    ne_eqb (last_place base p (k ∷ ks)).0 none.0 (λ e. omega arith)

-- and inside what is lent
pub last_inside : (base : Addr) (lo hi len : ℕ) (front : List Hole) → base.0 ≤ lo → hi ≤ base.0 + len → Rises lo hi front
    → ((last_place base none front).0 ≡ none.0 → ⊥) → (last_place base none front).0 + min_size ≤ len
unfolding last_place
last_inside base lo hi len [] a b r n = absurd (n refl)
last_inside base lo hi len (k ∷ ks) a b r n = let l = last_below base none lo hi k ks a r in omega arith

-- the first holes of a list that rises, with the same bounds
pub front_rises : (lo hi : ℕ) (front back : List Hole) → Rises lo hi (front ++ back) → Rises lo hi front
front_rises lo hi front back r =
    let e = end_or lo front in
    rises_widen lo lo e hi front (omega arith) (rises_le e hi back (rises_back lo hi front back r)) (rises_front lo hi front back r)

-- where a list begins, by its parts
pub first_on : (base : Addr) (xs ys : List Hole) → first_or base xs (first_of base ys) ≡ first_of base (xs ++ ys)
first_on base xs ys = rw (first_or_lem base ys, first_or_lem base (xs ++ ys)) (sym (first_append base xs ys none))

-- ---- the link: the head of the last hole before, written with the size that it has

put_last : (base : Addr) (lo hi : ℕ) (front : List Hole) (k : Hole) (p to : Place) (m m₁ : List ℕ) → base.0 ≤ lo → hi < 2 ^ 64 - 1
    → Rises lo hi (k ∷ front) → Holds base m (k ∷ front) p
    → put (write (last_place base none (k ∷ front)) (head_at m (last_place base none (k ∷ front))).size to) m₁ ≡ link base (k ∷ front) to m₁
unfolding put last_place link
put_last base lo hi [] k p to m m₁ a b r t = rw t.0
put_last base lo hi (j ∷ js) k p to m m₁ a b r t =
    put_last base (k.addr.0 + k.size) hi js j p to m m₁ (omega arith) b r.2 t.1

-- ---- a middle

-- the list becomes ks
abbrev pub Linked : Addr → List ℕ → List Hole → Relinked → Type 0
Linked base m ks r = Relinks base m ks r.first r.heads

-- the holes front, mid and back rise between lo and hi; the heads of front and of back stand, front's last leading to p
pub record Middle (base : Addr) (m : List ℕ) (front mid back : List Hole) (p first : Place) : Type 0 where
  pub lo : ℕ
  pub hi : ℕ
  pub bytes : Bytes m
  pub low : base.0 ≤ lo
  pub small : hi < 2 ^ 64 - 1
  pub lent : hi ≤ base.0 + length m
  pub rises : Rises lo hi (front ++ (mid ++ back))
  pub before : Holds base m front p
  pub behind : Holds base m back none
  pub begins : first ≡ first_or base front p

module _ {base : Addr} {m : List ℕ} {front mid back : List Hole} {p first : Place} (s : Middle base m front mid back p first) where
  -- front's last leads to the middle already, or the list begins there: only the middle is written
  pub keeps : p ≡ first_of base (mid ++ back) → {ws : Writes} → Leaves m ws (put_heads_to base mid (first_of base back) m)
      → Relinks base m (front ++ (mid ++ back)) first ws
  keeps e {ws} w =
      let one = relink_same base s.lo s.hi front mid back p m s.bytes s.low s.rises s.before s.behind e in
      record {
        first = s.begins ∙ rw e (first_on base front (mid ++ back));
        heads = record { one = w.one; two = w.two; arena = w.arena ∙ sym one };
      }

-- else the link to the middle is written too
pub links : {base : Addr} {m : List ℕ} (front : List Hole) {mid back : List Hole} {p first : Place}
    → Middle base m front mid back p first
    → (one : Option Write) → Lands m one → put one m ≡ put_heads_to base mid (first_of base back) m
    → Linked base m (front ++ (mid ++ back)) (linked_to first m (last_place base none front) (first_of base (mid ++ back)) one)
unfolding linked_to last_place link put written first_of
links {base} {m} [] {mid} {back} {p} s one i e =
    let all = relink base s.lo s.hi [] mid back p m s.bytes s.low s.rises s.before s.behind in
    record { first = refl; heads = record { one = i; two = tt; arena = e ∙ sym all } }
links {base} {m} (k ∷ ks) {mid} {back} {p} s one i e =
    let to = first_of base (mid ++ back) in
    let all = relink base s.lo s.hi (k ∷ ks) mid back p m s.bytes s.low s.rises s.before s.behind in
    let r = front_rises s.lo s.hi (k ∷ ks) (mid ++ back) s.rises in
    let some = last_place_lem base none s.lo s.hi k ks s.low s.small r in
    let two = last_inside base s.lo s.hi (length m) (k ∷ ks) s.low s.lent r (eqb-false _ _ some) in
    let both = put_last base s.lo s.hi ks k p to m (put_heads_to base mid (first_of base back) m) s.low s.small r s.before in
    rw some (record {
      first = s.begins;
      heads = record { one = i; two = two; arena = rw e (both ∙ sym all) };
    })
