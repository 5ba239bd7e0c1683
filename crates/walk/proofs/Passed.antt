-- What a walk has passed, one hole after the other, and what it says of the list by where it comes to. Assumes nothing.
use mathlib.Core.Path.{◌≡◌, refl, ap, ◌∙◌}
use mathlib.Core.List.{List, [], ◌∷◌, ◌++◌, append_assoc, append-nil}
use Prim.Native.Nat.{◌+◌, ◌*◌, ◌≤◌}
use native.Mathlib.Omega.{arith}
use lib.ListN.{length, length-append}
use Rattle.rules.specs.Fixed.{min_size}
use Rattle.rules.specs.Kinds.{place_of}
use Rattle.rules.specs.Holes.{total}
use Rattle.rules.specs.declared.Addr.{Addr}
use Rattle.rules.specs.declared.Place.{Place}
use Rattle.rules.specs.declared.Hole.{Hole}
use Rattle.rules.specs.Inner.{behind, head_rules, ends}
use Rattle.rules.proofs.Totals.{total_append}
use Rattle.walk.specs.Walk.{Stop, stopped, ended, broken, past, last_place, last_floor, walked}
use mathlib.Core.Bool.{Bool, true, false}
use Rattle.rules.specs.Tests.{all}
use Rattle.rules.specs.declared.Heap.{Heap}
use Rattle.std.proofs.lemmas.Bool.{cond_both}
use Rattle.rules.proofs.Walk.{rules_keep, walks}

-- ---- none, and one more

pub past_none : (s : Stop) → s ≡ past [] s
unfolding past
past_none (stopped js k back) = refl
past_none (ended js) = refl
past_none broken = refl

pub past_more : (front : List Hole) (k : Hole) (s : Stop) → past front (past (k ∷ []) s) ≡ past (front ++ (k ∷ [])) s
unfolding past
past_more front k (stopped js j back) = rw append_assoc
past_more front k (ended js) = rw append_assoc
past_more front k broken = refl

pub last_none : (base : Addr) (p : Place) → last_place base p [] ≡ p
unfolding last_place
last_none base p = refl

pub last_some : (base : Addr) (p : Place) (front : List Hole) (k : Hole) → last_place base p (front ++ (k ∷ [])) ≡ place_of base k.addr
unfolding last_place
last_some base p [] k = refl
last_some base p (j ∷ front) k = last_some base (place_of base j.addr) front k

pub floor_some : (low : Addr) (front : List Hole) (k : Hole) → last_floor low (front ++ (k ∷ [])) ≡ behind k
unfolding last_floor
floor_some low [] k = refl
floor_some low (j ∷ front) k = floor_some (behind j) front k

pub count_more : (front : List Hole) (k : Hole) → length (front ++ (k ∷ [])) ≡ length front + 1
count_more front k = length-append front (k ∷ [])

pub total_more : (front : List Hole) (k : Hole) → total (front ++ (k ∷ [])) ≡ total front + k.size
unfolding total
total_more front k = omega (arith, total_append front (k ∷ []))

-- ---- the bytes that they take

-- the floor behind the holes passed leaves room for them all
pub record Spaced (low : Addr) (front : List Hole) : Type 0 where
  pub counted : low.0 + (2 * min_size) * length front ≤ (last_floor low front).0
  pub summed : low.0 + total front ≤ (last_floor low front).0

pub spaced_none : (low : Addr) → Spaced low []
unfolding last_floor total
spaced_none low = record { counted = omega arith; summed = omega arith }

module _ (low : Addr) (front : List Hole) (k : Hole) (least : min_size ≤ k.size) where
  -- with one more behind them
  pub spaced_more : Spaced low front → (last_floor low front).0 ≤ k.addr.0 → Spaced low (front ++ (k ∷ []))
  spaced_more s above =
      let f = floor_some low front k in
      record { counted = rw f (omega (arith, count_more front k)); summed = rw f (omega (arith, total_more front k)) }

  -- and with one more in front
  pub spaced_before : Spaced (behind k) front → low.0 ≤ k.addr.0 → Spaced low (k ∷ front)
  unfolding last_floor total
  spaced_before s above = record { counted = omega arith; summed = omega arith }

-- no hole of a list stops it
abbrev pub NoneStops : (Hole → Bool) → List Hole → Type 0
NoneStops stops [] = Unit {0}
NoneStops stops (k ∷ ks) = (stops k ≡ false) × NoneStops stops ks

module _ (stops : Hole → Bool) (h : Heap) where
  -- the holes passed stand in front of those left, and the rules on all are those on what is left
  pub record Came (low : Addr) (ks front back : List Hole) : Type 0 where
    pub list : ks ≡ front ++ back
    pub none : NoneStops stops front
    pub spaced : Spaced low front
    pub onward : walks h low ks ≡ walks h (last_floor low front) back

  -- at a hole that stops it, behind the last hole, or at a broken rule
  abbrev pub Says : Addr → List Hole → Stop → Type 0
  Says low ks (stopped front k back) =
      Came low ks front (k ∷ back) × (all (head_rules h (last_floor low front) k) ≡ true) × (stops k ≡ true)
  Says low ks (ended front) = Came low ks front [] × (ends h (last_floor low front) ≡ true)
  Says low ks broken = walks h low ks ≡ false

  module _ (low : Addr) (k : Hole) (ks : List Hole) (rules : all (head_rules h low k) ≡ true) (goes : stops k ≡ false) where
    came_on : {front back : List Hole} → Came (behind k) ks front back → Came low (k ∷ ks) (k ∷ front) back
    unfolding walks last_floor
    came_on {front} c =
        let r = rules_keep h low k rules in
        record {
          list = ap (λ (js : List Hole). k ∷ js) c.list;
          none = (goes, c.none);
          spaced = spaced_before low front k r.least c.spaced r.above;
          onward = rw rules c.onward;
        }

    -- what is said of the holes behind one that is passed is said with it in front
    said_on : (s : Stop) → Says (behind k) ks s → Says low (k ∷ ks) (past (k ∷ []) s)
    unfolding past walks last_floor
    said_on (stopped front j back) s = (came_on s.0, s.1, s.2)
    said_on (ended front) s = (came_on s.0, s.1)
    said_on broken s = rw rules s

  came_none : (low : Addr) (ks : List Hole) → Came low ks [] ks
  unfolding last_floor
  came_none low ks = record { list = refl; none = tt; spaced = spaced_none low; onward = refl }

  pub said : (low : Addr) (ks : List Hole) → Says low ks (walked stops h low ks)
  unfolding walked walks last_floor
  said low [] = cond_both (ends h low) _ _ (Says low []) (λ e. (came_none low [], e)) (λ e. e)
  said low (k ∷ ks) =
      cond_both (all (head_rules h low k)) _ _ (Says low (k ∷ ks))
      (λ e.
      cond_both (stops k) _ _ (Says low (k ∷ ks))
      (λ y. (came_none low (k ∷ ks), e, y))
      (λ n. said_on low k ks e n (walked stops h (behind k) ks) (said (behind k) ks)))
      (λ e. rw e)

  module _ (low : Addr) (ks : List Hole) where
    -- a walk that came to the end passed every hole, each of which keeps its rules
    pub said_end : {front : List Hole} → walked stops h low ks ≡ ended front → (ks ≡ front) × (walks h low ks ≡ true)
    unfolding walks
    said_end {front} e =
        let s = rw e at (said low ks) in
        (s.0.list ∙ append-nil front, s.0.onward ∙ s.1)

    pub said_bad : walked stops h low ks ≡ broken → walks h low ks ≡ false
    said_bad e = rw e at (said low ks)
