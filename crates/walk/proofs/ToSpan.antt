-- The walk to the neighbours of a span: how its loop answers, and what the answer says of the list of holes. Assumes nothing.
use mathlib.Core.Path.{◌≡◌, refl}
use mathlib.Core.Bool.{true, false}
use mathlib.Core.List.{List, [], ◌∷◌, ◌++◌}
use Prim.Native.Nat.{ℕ, ◌+◌, ◌≤◌, ◌<◌}
use native.Mathlib.Omega.{arith}
use Rattle.std.proofs.Common.{Result, Ok, Err, None}
use borrow.Author.Tests.{ltb-true, ltb-false, lt-ltb}
use Rattle.rules.specs.Fixed.{min_size}
use Rattle.rules.specs.Tests.{all}
use Rattle.rules.specs.Kinds.{none}
use Rattle.rules.specs.Holes as Holes
use Rattle.rules.specs.Holes.{first_of}
use Rattle.rules.specs.Sound.{holes}
use Rattle.rules.specs.declared.Addr.{Addr}
use Rattle.rules.specs.declared.Place.{Place}
use Rattle.rules.specs.declared.Hole.{Hole}
use Rattle.rules.specs.declared.Heap.{Heap}
use Rattle.rules.specs.Inner.{Fair, head_rules, ends}
use Rattle.rules.proofs.Walk.{rules_keep, walks, ends_cases}
use Rattle.rules.proofs.Freed.{Past}
use Rattle.walk.specs.declared.Cursor.{Cursor}
use Rattle.walk.specs.declared.Near.{Near}
use Rattle.rules.specs.declared.Refusal.{Refusal}
use Rattle.rules.specs.declared.Refusal.TheVariants.{NotSound}
use Rattle.walk.specs.Walk.{Stepped, found_at, start_of, step_of, Stop, stopped, ended, broken, last_place, last_floor, is_beyond, near_to, near_by, near_of}
use Rattle.walk.proofs.Passed.{Spaced}
use Rattle.walk.proofs.Turn.{breaks_5, turn_place, end_place, all_halt, all_end, all_break}
use Rattle.walk.proofs.Passed.{NoneStops, Came, Says, said}
use Rattle.walk.proofs.Gathered.{Seeking}
use Rattle.walk.proofs.ToEnd.{Reached}

-- ---- the loop

module _ (x : Addr) {h : Heap} {m : List ℕ} {cursor : Cursor} {floor : Addr} {total count : ℕ} where
  module _ (s : Seeking (is_beyond x) h m cursor floor total count) {st : Stepped} (is : st ≡ step_of h m cursor.hole floor) where
    abbrev here : Result Near Refusal
    here = Ok (record { cursor = cursor; floor = floor; total = total })

    pub near_found : {k : Hole} {q : Place} → st ≡ found_at k q → x.0 < k.addr.0 → here ≡ near_of h x (holes h m)
    unfolding near_of near_by first_of
    near_found {k} e l =
        let t = all_halt s.counting.gone is e (lt-ltb x.0 k.addr.0 l) in
        rw (t.1, ← s.prev, ← turn_place s.counting.gone is e, ← s.counting.gone.behind, ← s.counting.summed)

    pub near_ended : st ≡ Ok None → here ≡ near_of h x (holes h m)
    unfolding near_of near_by first_of
    near_ended e = rw (all_end s.counting.gone is e, ← s.prev, ← end_place s.counting.gone is e, ← s.counting.gone.behind, ← s.counting.summed)

    pub near_broken : {r : Refusal} → st ≡ Err r → Err r ≡ near_of h x (holes h m)
    unfolding near_of near_by
    near_broken e = rw (breaks_5 s.counting.gone is e, all_break s.counting.gone is e)

-- ---- what the answer says of the list

-- every hole lies at or before the address
abbrev pub AllFrom : Addr → List Hole → Type 0
AllFrom x [] = Unit {0}
AllFrom x (k ∷ ks) = (k.addr.0 ≤ x.0) × AllFrom x ks

all_from : (x : Addr) (ks : List Hole) → NoneStops (is_beyond x) ks → AllFrom x ks
all_from x [] n = tt
all_from x (k ∷ ks) n = (ltb-false x.0 k.addr.0 n.0, all_from x ks n.1)

-- the first hole, where there is one, lies beyond the address
abbrev pub Beyond : Addr → List Hole → Type 0
Beyond x ks = Past x.0 ks

-- what is left keeps its rules as far as the walk came: its first hole does, or the end
abbrev pub Begins : Heap → Addr → List Hole → Type 0
Begins h floor [] = ends h floor ≡ true
Begins h floor (k ∷ ks) = all (head_rules h floor k) ≡ true

begins_high : (h : Heap) (floor : Addr) (ks : List Hole) → Begins h floor ks → floor.0 ≤ h.top.0 + min_size
begins_high h floor [] b = ends_cases h floor b (λ l. omega arith) (λ e. omega arith)
begins_high h floor (k ∷ ks) b = let r = rules_keep h floor k b in omega arith

module _ (h : Heap) (x : Addr) where
  -- the holes before the address, and those beyond it
  pub record Lies (ks : List Hole) (s : Near) : Type 0 where
    pub front : List Hole
    pub back : List Hole
    pub list : ks ≡ front ++ back
    pub before : AllFrom x front
    pub beyond : Beyond x back
    pub prev : s.cursor.prev ≡ last_place h.base none front
    pub at : s.cursor.hole ≡ first_of h.base back
    pub floor : s.floor ≡ last_floor (start_of h) front
    pub summed : s.total ≡ Holes.total front
    pub begins : Begins h s.floor back
    pub spaced : Spaced (start_of h) front
    pub onward : walks h (start_of h) ks ≡ walks h s.floor back

  abbrev Tells : List Hole → Result Near Refusal → Type 0
  Tells ks (Ok s) = Lies ks s
  Tells ks (Err r) = (r ≡ NotSound) × (walks h (start_of h) ks ≡ false)

  came_lies : (ks front back : List Hole) → Came (is_beyond x) h (start_of h) ks front back → Beyond x back
      → Begins h (last_floor (start_of h) front) back → Lies ks (near_to h front back)
  came_lies ks front back c b r =
      record {
        front = front;
        back = back;
        list = c.list;
        before = all_from x front c.none;
        beyond = b;
        prev = refl;
        at = refl;
        floor = refl;
        summed = refl;
        begins = r;
        spaced = c.spaced;
        onward = c.onward;
      }

  tells : (ks : List Hole) (s : Stop) → Says (is_beyond x) h (start_of h) ks s → Tells ks (near_by h s)
  unfolding near_by
  tells ks (stopped front k back) s = came_lies ks front (k ∷ back) s.0 (ltb-true x.0 k.addr.0 s.2) s.1
  tells ks (ended front) s = came_lies ks front [] s.0 tt s.1
  tells ks broken s = (refl, s)

  module _ (ks : List Hole) where
    told : Tells ks (near_of h x ks)
    unfolding near_of
    told = tells ks _ (said (is_beyond x) h (start_of h) ks)

    pub near_at : {s : Near} → near_of h x ks ≡ Ok s → Lies ks s
    near_at e = rw e at told

    pub near_bad : {r : Refusal} → near_of h x ks ≡ Err r → (r ≡ NotSound) × (walks h (start_of h) ks ≡ false)
    near_bad e = rw e at told

-- a walk that goes on starts behind the holes before the address
pub near_reached : (h : Heap) (m : List ℕ) (x : Addr) {s : Near} → Fair h → (l : Lies h x (holes h m) s)
    → Reached h m s.cursor.hole s.floor s.total l.front l.back
near_reached h m x {s} fair l =
    record {
      fair = fair;
      list = l.list;
      next = l.at;
      behind = l.floor;
      summed = l.summed;
      spaced = l.spaced;
      high = begins_high h s.floor l.back l.begins;
      onward = l.onward;
    }
