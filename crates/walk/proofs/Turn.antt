-- The turns of a walk: where it starts, and what the step at a place makes of it, whatever holes stop it. Every loop that walks keeps `Gone`.
-- Assumes nothing.
use mathlib.Core.Path.{◌≡◌, refl, sym, ap, ◌∙◌}
use mathlib.Core.Bool.{Bool, true, false}
use mathlib.Core.List.{List, [], ◌∷◌, ◌++◌, append-nil, append_assoc}
use Prim.Native.Nat.{ℕ, zero, suc, ◌+◌, ◌*◌, ◌-◌, ◌≤◌, ◌<◌}
use native.Mathlib.Omega.{arith}
use lib.Dec.{eqb}
use lib.ListN.{length}
use Rattle.std.proofs.Common.{Ok, Err, None}
use borrow.Author.Tests.{eqb-true, eqb-false, eq-eqb, ne_eqb}
use Rattle.rules.specs.Fixed.{min_size, addr_limit}
use Rattle.rules.specs.Kinds.{place_of, none, is_none}
use Rattle.rules.specs.Holes.{head_at, holes_from, first_of, total}
use Rattle.rules.specs.Sound.{most, holes}
use Rattle.rules.specs.declared.Addr.{Addr}
use Rattle.rules.specs.declared.Place.{Place}
use Rattle.rules.specs.declared.Hole.{Hole}
use Rattle.rules.specs.declared.Heap.{Heap}
use Rattle.rules.specs.Inner.{Fair, behind, ends}
use Rattle.rules.proofs.Cases.{cases}
use Rattle.rules.proofs.Walk.{rules_keep, floor_of, floor_low, floor_high}
use Rattle.rules.proofs.Lists.{from_none, from_step, place_back, first_from, holes_read}
use Rattle.rules.specs.declared.Refusal.{Refusal}
use Rattle.rules.specs.declared.Refusal.TheVariants.{NotSound}
use Rattle.walk.specs.Walk.{Enough, Stepped, found_at, start_of, step_of, Stop, stopped, ended, broken, past, walked, last_floor}
use Rattle.walk.proofs.OneStep.{hole_at, Found, finds}
use Rattle.walk.proofs.Passed.{past_none, past_more, floor_some, Spaced, spaced_none, spaced_more}

-- ---- the list at a place

holes_none : (n : ℕ) (h : Heap) (m : List ℕ) (at : Place) → is_none at ≡ true → holes_from n h.base m at ≡ []
holes_none n h m at e = let z = eqb-true at.0 none.0 e in rw z (from_none n h.base m)

holes_more : (n : ℕ) (h : Heap) (m : List ℕ) (at : Place) → is_none at ≡ false
    → holes_from (suc n) h.base m at ≡ hole_at h m at ∷ holes_from n h.base m (head_at m at).next
holes_more n h m at e = from_step n h.base m at (eqb-false at.0 none.0 e)

-- a list that is read at all begins where it is read
first_at : (n : ℕ) (h : Heap) (m : List ℕ) (at : Place) → 0 < n → first_of h.base (holes_from n h.base m at) ≡ at
first_at zero h m at l = absurd (omega arith)
first_at (suc n) h m at l = first_from n h.base m at

-- more heads than lie behind a floor are at least one
enough_more : (h : Heap) (floor : Addr) (n : ℕ) → Enough h floor n → floor.0 ≤ h.top.0 + min_size → 0 < n
enough_more h floor zero e l = absurd (omega arith)
enough_more h floor (suc n) e l = omega arith

-- ---- a walk that has come to a place

-- a walk: what stops it, the heap and its arena, the place and the floor from which it starts
pub record Walk : Type 0 where
  pub stops : Hole → Bool
  pub h : Heap
  pub m : List ℕ
  pub from : Place
  pub low : Addr

-- the first n of its holes
abbrev pub few : Walk → ℕ → List Hole
few w n = holes_from n w.h.base w.m w.from

-- where it comes to over some holes
abbrev pub over : Walk → List Hole → Stop
over w ks = walked w.stops w.h w.low ks

-- of its first n holes, those that are left
pub record Left (w : Walk) (at : Place) (floor : Addr) (front : List Hole) (n : ℕ) : Type 0 where
  pub rest : ℕ
  pub enough : Enough w.h floor rest
  pub list : few w n ≡ front ++ holes_from rest w.h.base w.m at
  pub same : over w (few w n) ≡ past front (walked w.stops w.h floor (holes_from rest w.h.base w.m at))

-- what it has passed; and what is left, however far the list is read
pub record Gone (w : Walk) (at : Place) (floor : Addr) (front : List Hole) : Type 0 where
  pub fair : Fair w.h
  pub left : (n : ℕ) → Enough w.h w.low n → Left w at floor front n
  pub behind : floor ≡ last_floor w.low front
  pub spaced : Spaced w.low front
  pub high : floor.0 ≤ w.h.top.0 + min_size

pub begins : (w : Walk) → Fair w.h → w.low.0 ≤ w.h.top.0 + min_size → Gone w w.from w.low []
unfolding last_floor
begins w f l =
    record {
      fair = f;
      left = λ n en. record { rest = n; enough = en; list = refl; same = past_none _ };
      behind = refl;
      spaced = spaced_none w.low;
      high = l;
    }

-- ---- one turn

-- what every loop leans on for its sums and its measure: the hole lies between the floor and top, and the holes passed below the floor
pub record Bounds (w : Walk) (floor : Addr) (front : List Hole) (k : Hole) : Type 0 where
  pub above : floor.0 ≤ k.addr.0
  pub least : min_size ≤ k.size
  pub inside : k.addr.0 + k.size ≤ w.h.top.0
  pub limit : w.h.top.0 ≤ addr_limit
  pub counted : w.low.0 + (2 * min_size) * length front ≤ floor.0
  pub summed : w.low.0 + total front ≤ floor.0

module _ {w : Walk} {at : Place} {floor : Addr} {front : List Hole} (g : Gone w at floor front) {st : Stepped} (is : st ≡ step_of w.h w.m at floor) where
  abbrev At : Hole → Place → Type 0
  At k q = st ≡ found_at k q

  found : {k : Hole} {q : Place} → At k q → Found w.h w.m at floor k q
  found e = rw (sym is ∙ e) at (finds w.h w.m at floor)

  -- the head that is read stands in front of those that are left
  list_at : {n : ℕ} (l : Left w at floor front n) → is_none at ≡ false
      → holes_from l.rest w.h.base w.m at
      ≡ hole_at w.h w.m at ∷ holes_from (l.rest - 1) w.h.base w.m (head_at w.m at).next
  list_at l some =
      let is : l.rest ≡ suc (l.rest - 1) = omega (arith, enough_more w.h floor l.rest l.enough g.high) in
      ap (λ (i : ℕ). holes_from i w.h.base w.m at) is ∙ holes_more (l.rest - 1) w.h w.m at some

  ahead : {k : Hole} {q : Place} → At k q → {n : ℕ} (l : Left w at floor front n)
      → holes_from l.rest w.h.base w.m at ≡ k ∷ holes_from (l.rest - 1) w.h.base w.m q
  ahead e l = let f = found e in rw (f.hole, f.next) (list_at l f.some)

  enough : {k : Hole} {q : Place} → At k q → {n : ℕ} (l : Left w at floor front n) → Enough w.h (behind k) (l.rest - 1)
  enough {k} e l =
      let r = rules_keep w.h floor k (found e).rules in
      omega (arith, enough_more w.h floor l.rest l.enough g.high, l.enough)

  -- the step finds a hole
  pub turn_bounds : {k : Hole} {q : Place} → At k q → Bounds w floor front k
  turn_bounds {k} e =
      let r = rules_keep w.h floor k (found e).rules in
      let f = ap (λ (a : Addr). a.0) g.behind in
      let s = g.spaced in
      let l = g.fair in
      omega arith

  pub turn_place : {k : Hole} {q : Place} → At k q → at ≡ place_of w.h.base k.addr
  turn_place e = rw (found e).hole (sym (place_back w.h.base at))

  -- it is passed
  pub goes_on : {k : Hole} {q : Place} → At k q → w.stops k ≡ false → Gone w q (behind k) (front ++ (k ∷ []))
  unfolding walked
  goes_on {k} e n =
      let b = turn_bounds e in
      let f = ap (λ (a : Addr). a.0) g.behind in
      record {
        fair = g.fair;
        left =
            λ i en.
            let l = g.left i en in
            let a = ahead e l in
            record {
              rest = l.rest - 1;
              enough = enough e l;
              list = l.list ∙ rw (a, append_assoc);
              same = l.same ∙ rw (a, (found e).rules, n) (past_more front k _);
            };
        behind = sym (floor_some w.low front k);
        spaced = spaced_more w.low front k b.least g.spaced (omega arith);
        high = omega arith;
      }

  -- it stops the walk
  pub halts : {k : Hole} {q : Place} → At k q → w.stops k ≡ true → (n : ℕ) → Enough w.h w.low n
      → (back : List Hole) × (over w (few w n) ≡ stopped front k back) × (first_of w.h.base back ≡ q)
  unfolding walked past
  halts {k} {q} e y n en =
      let l = g.left n en in
      let b = turn_bounds e in
      let more = enough_more w.h (behind k) (l.rest - 1) (enough e l) (omega arith) in
      (holes_from (l.rest - 1) w.h.base w.m q, l.same ∙ rw (ahead e l, (found e).rules, y, append-nil), first_at (l.rest - 1) w.h w.m q more)

  -- the step finds no further hole
  end_found : st ≡ Ok None → (is_none at ≡ true) × (ends w.h floor ≡ true)
  end_found e = rw (sym is ∙ e) at (finds w.h w.m at floor)

  pub end_place : st ≡ Ok None → at ≡ none
  end_place e = let z = eqb-true at.0 none.0 (end_found e).0 in rw z

  pub ends_here : st ≡ Ok None → (n : ℕ) → Enough w.h w.low n → over w (few w n) ≡ ended front
  unfolding walked past
  ends_here e n en =
      let l = g.left n en in
      let t = end_found e in
      l.same ∙ rw (holes_none l.rest w.h w.m at t.0, t.1, append-nil)

  -- or a broken rule
  module _ {r : Refusal} (e : st ≡ Err r) where
    pub breaks_5 : r ≡ NotSound
    breaks_5 = (rw (sym is ∙ e) at (finds w.h w.m at floor)).0

    pub breaks : (n : ℕ) → Enough w.h w.low n → over w (few w n) ≡ broken
    unfolding walked past
    breaks n en =
        let l = g.left n en in
        let b = rw (sym is ∙ e) at (finds w.h w.m at floor) in
        l.same
        ∙ cases (is_none at)
        (λ t. rw (holes_none l.rest w.h w.m at t, b.1 t))
        (λ t. rw (list_at l t, b.2 t))

-- ---- where a walk over all holes starts

pub record Start (h : Heap) (m : List ℕ) : Type 0 where
  pub floor : start_of h ≡ floor_of h (holes h m)
  pub list : holes h m ≡ holes_from (suc (most h)) h.base m h.first
  pub enough : Enough h (start_of h) (suc (most h))
  pub bottom : h.bottom.0 ≤ (start_of h).0
  pub low : (start_of h).0 ≤ h.top.0 + min_size

start_floor : (h : Heap) (m : List ℕ) → Fair h → (n : ℕ)
    → start_of h ≡ floor_of h (holes_from (suc n) h.base m h.first)
unfolding start_of floor_of
start_floor h m f n =
    let p = h.first.0 in
    let b = h.bottom.0 in
    cases (is_none h.first)
    (λ t.
    let z = eqb-true p none.0 t in
    let e : eqb p (b - h.base.0) ≡ false = ne_eqb p (b - h.base.0) (λ w. omega arith) in
    rw (holes_none (suc n) h m h.first t, e))
    (λ t.
    cases (eqb p (b - h.base.0))
    (λ e.
    let z = eqb-true p (b - h.base.0) e in
    let s : eqb b (h.base.0 + p) ≡ true = eq-eqb b (h.base.0 + p) (omega arith) in
    rw (holes_more n h m h.first t, e, s))
    (λ e.
    let s : eqb b (h.base.0 + p) ≡ false =
    ne_eqb b (h.base.0 + p) (λ w. eqb-false p (b - h.base.0) e (omega arith)) in
    rw (holes_more n h m h.first t, e, s)))

pub start : (h : Heap) (m : List ℕ) → Fair h → Start h m
start h m f =
    let list = holes_read h m f in
    let floor : start_of h ≡ floor_of h (holes h m) = rw list (start_floor h m f (most h)) in
    let low = rw (← floor) at (floor_low h (holes h m)) in
    let high = rw (← floor) at (floor_high h (holes h m)) in
    record {
      floor = floor;
      list = list;
      enough = omega arith;
      bottom = low;
      low = omega arith;
    }

-- ---- a walk over all holes

abbrev pub all : (Hole → Bool) → Heap → List ℕ → Walk
all stops h m = record { stops = stops; h = h; m = m; from = h.first; low = start_of h }

pub begins_all : (stops : Hole → Bool) (h : Heap) (m : List ℕ) → Fair h → Gone (all stops h m) h.first (start_of h) []
begins_all stops h m f = begins (all stops h m) f (start h m f).low

-- what is left of it, and the turns that end it
module _ {stops : Hole → Bool} {h : Heap} {m : List ℕ} {at : Place} {floor : Addr} {front : List Hole} (g : Gone (all stops h m) at floor front) where
  pub all_left : (back : List Hole) × (holes h m ≡ front ++ back)
  all_left =
      let s = start h m g.fair in
      let l = g.left (suc (most h)) s.enough in
      (holes_from l.rest h.base m at, s.list ∙ l.list)

  module _ {st : Stepped} (is : st ≡ step_of h m at floor) where
    pub all_halt : {k : Hole} {q : Place} → st ≡ found_at k q → stops k ≡ true
        → (back : List Hole) × (walked stops h (start_of h) (holes h m) ≡ stopped front k back) × (first_of h.base back ≡ q)
    all_halt e y = let s = start h m g.fair in rw s.list (halts g is e y (suc (most h)) s.enough)

    pub all_end : st ≡ Ok None → walked stops h (start_of h) (holes h m) ≡ ended front
    all_end e = let s = start h m g.fair in rw s.list (ends_here g is e (suc (most h)) s.enough)

    pub all_break : {r : Refusal} → st ≡ Err r → walked stops h (start_of h) (holes h m) ≡ broken
    all_break e = let s = start h m g.fair in rw s.list (breaks g is e (suc (most h)) s.enough)
