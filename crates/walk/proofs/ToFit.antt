-- The walk to the hole that an allocation uses: where a block starts in a hole and whether the hole suits; how the loop answers, and what the
-- answer says of the list of holes. Assumes nothing.
use mathlib.Core.Path.{◌≡◌, sym, ap, refl, ◌∙◌}
use mathlib.Core.Bool.{true, false, cond, or-false}
use Prim.Native.Nat.{ℕ, ◌+◌, ◌%◌, ◌≤◌, ◌<◌}
use native.Mathlib.Omega.{arith}
use lib.Dec.{leb}
use borrow.Author.Tests.{eq-eqb, ne_eqb, le-leb, lt-leb}
use Rattle.rules.specs.Fixed.{min_size}
use Rattle.rules.specs.Round.{Power, Above}
use Rattle.rules.specs.Kinds.{addr, plus, place_of, none}
use Rattle.rules.specs.Holes.{end, first_of}
use Rattle.rules.specs.Sound.{gap, sound_holes, holes}
use Rattle.rules.specs.Allocate.{candidate, suits, find, later, nothing}
use Rattle.rules.specs.declared.Addr.{Addr}
use Rattle.rules.specs.declared.Hole.{Hole}
use Rattle.rules.proofs.Cases.{cases, by_eq, apart}
use Rattle.rules.proofs.Multiples.{up_near, above_is}
use Rattle.rules.proofs.Powers.{power_pos}
use Rattle.rules.proofs.Used.{candidate_low}
use mathlib.Core.List.{List, [], ◌∷◌, ◌++◌, append-nil, append_assoc}
use lib.ListN.{length}
use Rattle.std.proofs.Common.{Result, Ok, Err, None}
use Rattle.rules.specs.Holes as Holes
use Rattle.rules.specs.Allocate as Allocate
use Rattle.rules.specs.declared.Place.{Place}
use Rattle.rules.specs.declared.Heap.{Heap}
use Rattle.rules.specs.Inner.{Fair, behind}
use Rattle.rules.proofs.Walk.{Keeps, rules_keep, walks}
use Rattle.walk.specs.declared.Cursor.{Cursor}
use Rattle.walk.specs.declared.Fit.{Fit}
use Rattle.walk.specs.declared.Search.{Search}
use Rattle.walk.specs.declared.Search.TheVariants.{At, Nowhere}
use Rattle.rules.specs.declared.Refusal.{Refusal}
use Rattle.rules.specs.declared.Refusal.TheVariants.{NotSound, NoRoom}
use Rattle.walk.specs.Walk.{Stepped, found_at, start_of, step_of, walked, Stop, stopped, ended, broken, last_place, last_floor, all_free, no_fit, searched_by, searched_of, search_by, search_of}
use Rattle.walk.proofs.Passed.{floor_some, total_more, Spaced, spaced_more}
use Rattle.walk.proofs.Turn.{breaks_5, turn_place, all_halt, all_end, all_break}
use Rattle.walk.proofs.Passed.{NoneStops, Says, said}
use Rattle.walk.proofs.Gathered.{Seeking}
use Rattle.walk.proofs.ToEnd.{by_walk, Reached}

module _ {align : ℕ} (p : Power align) (h : Addr) where
  -- the two ways to compute it
  pub aligned_candidate : h.0 % align ≡ 0 → h ≡ candidate align h
  unfolding candidate
  aligned_candidate e = rw (eq-eqb (h.0 % align) 0 e)

  pub raised_candidate : {r : Addr} → (h.0 % align ≡ 0 → ⊥) → Above align (plus h min_size).0 r.0 → r ≡ candidate align h
  unfolding candidate
  raised_candidate n a = rw (ne_eqb (h.0 % align) 0 n) (ap addr (above_is (power_pos p) a))

  -- it lies less than a head and the alignment beyond the address of the hole
  pub candidate_near : (candidate align h).0 < (plus h min_size).0 + align
  unfolding candidate
  candidate_near =
      by_eq (h.0 % align) 0
      (λ e. rw (eq-eqb (h.0 % align) 0 e) (omega arith))
      (λ n.
      rw (ne_eqb (h.0 % align) 0 n) (up_near align (plus h min_size).0 (power_pos p)))

-- ---- whether a hole suits, test by test

module _ (want : ℕ) {align : ℕ} (p : Power align) (k : Hole) where
  -- a size below the rounded size is too small wherever the block starts
  pub small_unsuited : k.size < want → false ≡ suits want align k
  unfolding suits
  small_unsuited l =
      let a = candidate_low align k.addr (power_pos p) in
      rw (lt-leb ((candidate align k.addr).0 + want) (end k).0 (omega arith))

  -- the rest, where it starts
  module _ {start : Addr} (is : start ≡ candidate align k.addr) where
    pub past_unsuited : (end k).0 < start.0 + want → false ≡ suits want align k
    unfolding suits
    past_unsuited l = rw (← is, lt-leb (start.0 + want) (end k).0 l)

    pub filled_suits : start.0 + want ≡ (end k).0 → true ≡ suits want align k
    unfolding suits gap
    filled_suits e =
        let l : start.0 + want ≤ (end k).0 = omega arith in
        rw (← is, le-leb (start.0 + want) (end k).0 l, eq-eqb (start.0 + want) (end k).0 e)

    pub left_suits : start.0 + want ≤ (end k).0 → (start.0 + want ≡ (end k).0 → ⊥)
        → leb (start.0 + want + min_size) (end k).0 ≡ suits want align k
    unfolding suits gap
    left_suits l n =
        rw (← is, le-leb (start.0 + want) (end k).0 l, ne_eqb (start.0 + want) (end k).0 n) (sym (or-false _))

-- ---- the loop

module _ (want align : ℕ) {h : Heap} {m : List ℕ} {cursor : Cursor} {floor : Addr} {total count : ℕ} where
  module _ (s : Seeking (Allocate.suits want align) h m cursor floor total count) {st : Stepped} (is : st ≡ step_of h m cursor.hole floor) where
    pub search_found : {k : Hole} {q : Place} → st ≡ found_at k q → Allocate.suits want align k ≡ true
        → Ok (At (record { cursor = cursor; hole = k; next = q; count = count + 1; total = total + k.size }))
        ≡ searched_of h want align (holes h m)
    unfolding searched_of searched_by
    search_found e y =
        let t = all_halt s.counting.gone is e y in
        rw (t.1, t.2, ← s.prev, ← turn_place s.counting.gone is e, s.counting.counted, s.counting.summed)

    pub search_ended : st ≡ Ok None → Ok (Nowhere count total) ≡ searched_of h want align (holes h m)
    unfolding searched_of searched_by
    search_ended e = rw (all_end s.counting.gone is e, s.counting.counted, s.counting.summed)

    pub search_broken : {r : Refusal} → st ≡ Err r → Err r ≡ searched_of h want align (holes h m)
    unfolding searched_of searched_by
    search_broken e = rw (breaks_5 s.counting.gone is e, all_break s.counting.gone is e)

-- ---- what an allocation makes of it

module _ (h : Heap) (want align : ℕ) (ks : List Hole) where
  -- the hole that it found, or a refusal
  abbrev Fitted : Result Search Refusal → Result Fit Refusal
  Fitted (Ok (At f)) = Ok f
  Fitted (Ok (Nowhere count total)) = Err (cond (all_free h total) (NoRoom count) NotSound)
  Fitted (Err r) = Err r

  fitted_by : (s : Stop) → Fitted (searched_by h.base s) ≡ search_by h s
  unfolding searched_by search_by no_fit
  fitted_by (stopped front k back) = refl
  fitted_by (ended ks) = refl
  fitted_by broken = refl

  pub fitted : {v w : Result Search Refusal} → v ≡ searched_of h want align ks → v ≡ w → Fitted w ≡ search_of h want align ks
  unfolding searched_of search_of
  fitted is e = ap Fitted (sym e ∙ is) ∙ fitted_by (walked (Allocate.suits want align) h (start_of h) ks)

-- ---- what the answer says of the list

module _ (want align : ℕ) where
  find_past : (front : List Hole) (k : Hole) (back : List Hole) → NoneStops (Allocate.suits want align) front → Allocate.suits want align k ≡ true
      → find want align (front ++ (k ∷ back)) ≡ Allocate.found front k back
  unfolding find later
  find_past [] k back n y = rw y
  find_past (j ∷ front) k back n y = rw (n.0, find_past front k back n.1 y)

  find_none : (ks : List Hole) → NoneStops (Allocate.suits want align) ks → find want align ks ≡ nothing
  unfolding find later
  find_none [] n = refl
  find_none (k ∷ ks) n = rw (n.0, find_none ks n.1)

module _ (h : Heap) (want align : ℕ) where
  -- the hole found, between those passed and those behind it
  pub record Fits (ks : List Hole) (f : Fit) : Type 0 where
    pub front : List Hole
    pub back : List Hole
    pub list : ks ≡ front ++ (f.hole ∷ back)
    pub found : find want align ks ≡ Allocate.found front f.hole back
    pub suits : Allocate.suits want align f.hole ≡ true
    pub counted : f.count ≡ length front + 1
    pub summed : f.total ≡ Holes.total front + f.hole.size
    pub at : f.cursor.hole ≡ place_of h.base f.hole.addr
    pub next : f.next ≡ first_of h.base back
    pub prev : f.cursor.prev ≡ last_place h.base none front
    -- it keeps its rules, and those passed leave room for it
    pub keeps : Keeps h (last_floor (start_of h) front) f.hole
    pub spaced : Spaced (start_of h) front
    pub onward : walks h (start_of h) ks ≡ walks h (behind f.hole) back

  -- no hole suits, or a rule is broken
  pub record Fails (ks : List Hole) (r : Refusal) : Type 0 where
    pub why : r ≡ cond (walks h (start_of h) ks) (no_fit h ks) NotSound
    pub none : walks h (start_of h) ks ≡ true → find want align ks ≡ nothing

  abbrev Tells : List Hole → Result Fit Refusal → Type 0
  Tells ks (Ok f) = Fits ks f
  Tells ks (Err r) = Fails ks r

  tells : (ks : List Hole) (s : Stop) → Says (Allocate.suits want align) h (start_of h) ks s → Tells ks (search_by h s)
  unfolding search_by walks
  tells ks (stopped front k back) s =
      let c = s.0 in
      record {
        front = front;
        back = back;
        list = c.list;
        found = rw c.list (find_past want align front k back c.none s.2);
        suits = s.2;
        counted = refl;
        summed = refl;
        at = refl;
        next = refl;
        prev = refl;
        keeps = rules_keep h (last_floor (start_of h) front) k s.1;
        spaced = c.spaced;
        onward = c.onward ∙ rw s.1;
      }
  tells ks (ended front) s =
      let c = s.0 in
      let list = c.list ∙ append-nil front in
      record { why = rw (c.onward ∙ s.1, list); none = λ w. rw list (find_none want align front c.none) }
  tells ks broken s = record { why = rw s; none = λ w. apart w s }

  module _ (ks : List Hole) where
    told : Tells ks (search_of h want align ks)
    unfolding search_of
    told = tells ks _ (said (Allocate.suits want align) h (start_of h) ks)

    pub fit_at : {f : Fit} → search_of h want align ks ≡ Ok f → Fits ks f
    fit_at e = rw e at told

    pub fit_fails : {r : Refusal} → search_of h want align ks ≡ Err r → Fails ks r
    fit_fails e = rw e at told

-- it is refused with 7 where all rules are kept, and then no hole suits; else with 5
module _ (h : Heap) (m : List ℕ) (want align : ℕ) (fair : Fair h) {r : Refusal} (e : search_of h want align (holes h m) ≡ Err r) where
  pub fit_refused : r ≡ cond (sound_holes h (holes h m)) (NoRoom (length (holes h m))) NotSound
  unfolding no_fit
  fit_refused =
      let ks = holes h m in
      (fit_fails h want align ks e).why
      ∙ cases (walks h (start_of h) ks) (λ w. rw (by_walk h m fair, w)) (λ w. rw (by_walk h m fair, w))

  pub fit_none : sound_holes h (holes h m) ≡ true → find want align (holes h m) ≡ nothing
  fit_none s =
      let ks = holes h m in
      (fit_fails h want align ks e).none
      (cases (walks h (start_of h) ks)
      (λ w. w)
      (λ w. let f : sound_holes h ks ≡ false = by_walk h m fair ∙ rw w in apart s f))

-- the holes up to it are passed: a walk that goes on starts behind it
pub fit_reached : (h : Heap) (m : List ℕ) (want align : ℕ) {f : Fit} → Fair h → (t : Fits h want align (holes h m) f)
    → Reached h m f.next (behind f.hole) f.total (t.front ++ (f.hole ∷ [])) t.back
fit_reached h m want align {f} fair t =
    let k = f.hole in
    let r = t.keeps in
    record {
      fair = fair;
      list = t.list ∙ sym (append_assoc t.front (k ∷ []) t.back);
      next = t.next;
      behind = sym (floor_some (start_of h) t.front k);
      summed = t.summed ∙ sym (total_more t.front k);
      spaced = spaced_more (start_of h) t.front k r.least t.spaced r.above;
      high = omega arith;
      onward = t.onward;
    }
