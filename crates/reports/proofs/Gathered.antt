-- What a report gathers in a pass over all holes: its last step and its sum decide the rules on them; and what a report comes to by it. Assumes
-- nothing.
use Rattle.std.proofs.Common.{◌≡◌, refl, sym, ap, ◌∙◌, true, false, cond, Result, Ok, Err, None, List, [], ◌∷◌, ◌++◌, ℕ, ◌+◌, ◌-◌, ◌≤◌, ◌<◌, max, length, arith}
use borrow.Author.Tests.{le-leb, lt-leb}
use Rattle.rules.specs.Fixed.{min_size}
use Rattle.rules.specs.Holes.{end}
use Rattle.rules.specs.Sound.{sound_holes, holes, size}
use Rattle.rules.specs.Allocate.{candidate, grant_of, largest_grant}
use Rattle.rules.specs.Calls.{Call, refused, told, list, room}
use Rattle.rules.specs.Outcome.{After, outcome, after, Rows, rows_after}
use Rattle.rules.specs.Inner.{Fulfils, carried}
use Rattle.rules.specs.declared.Addr.{Addr}
use Rattle.rules.specs.declared.Place.{Place}
use Rattle.rules.specs.declared.Hole.{Hole}
use Rattle.rules.specs.declared.Heap.{Heap}
use Rattle.rules.specs.declared.Refusal.{Refusal}
use Rattle.rules.specs.declared.Refusal.TheVariants.{NotSound}
use Rattle.rules.specs.declared.Answer.TheVariants.{Listed, Room}
use Rattle.std.proofs.lemmas.Bool.{cond_both}
use Rattle.rules.proofs.Walk.{sound_sum}
use Rattle.rules.proofs.Calls.{answer_refused, rows_refused, sifted_sound, sifted_broken, list_on, room_on}
use Rattle.layout.specs.Lays.{Lays}
use Rattle.layout.specs.declared.valid.Layout.{Layout}
use Rattle.numbers.specs.Lends.{Lends}
use Rattle.numbers.specs.declared.loan.Loan.{Loan}
use Rattle.numbers.proofs.Verdicts.{passes}
use Rattle.walk.specs.Walk.{Stepped, step_of, never, all_free}
use Rattle.walk.proofs.Turn.{breaks_5, all_end, all_break}
use Rattle.walk.proofs.ToEnd.{by_end, by_break}
use Rattle.walk.proofs.Gathered.{Counting}
use Rattle.reports.specs.Reports.{survey_of}
use Rattle.reports.specs.declared.Survey.{Survey}

-- ---- the largest grant

module _ (align : ℕ) (k : Hole) {start : Addr} (is : start ≡ candidate align k.addr) where
  pub grant_none : (end k).0 < start.0 + min_size → 0 ≡ grant_of align k
  unfolding grant_of
  grant_none l = rw (← is, lt-leb (start.0 + min_size) (end k).0 l)

  pub grant_some : start.0 + min_size ≤ (end k).0 → (end k).0 - start.0 ≡ grant_of align k
  unfolding grant_of
  grant_some l = rw (← is, le-leb (start.0 + min_size) (end k).0 l)

module _ (align : ℕ) where
  largest_more : (front : List Hole) (k : Hole) → largest_grant align (front ++ (k ∷ [])) ≡ max (largest_grant align front) (grant_of align k)
  unfolding largest_grant
  largest_more [] k = omega arith
  largest_more (j ∷ front) k = omega (arith, largest_more front k)

  pub largest_on : (front : List Hole) (k : Hole) {g r : ℕ} → g ≡ largest_grant align front → r ≡ max g (grant_of align k)
      → r ≡ largest_grant align (front ++ (k ∷ []))
  largest_on front k e f = omega (arith, largest_more front k)

-- ---- a pass

module _ {h : Heap} {m : List ℕ} {at : Place} {floor : Addr} {total n : ℕ} {front : List Hole} (c : Counting never h m at floor total n front) where
  module _ {st : Stepped} (is : st ≡ step_of h m at floor) (align : ℕ) where
    pub survey_broken : {r : Refusal} → st ≡ Err r → Err r ≡ survey_of h align (holes h m)
    unfolding survey_of
    survey_broken e = rw (breaks_5 c.gone is e, by_break never h m c.gone.fair (all_break c.gone is e))

    pub survey_ended : st ≡ Ok None → {g : ℕ} → g ≡ largest_grant align front
        → cond (all_free h total) (Ok (record { count = n; largest = g })) (Err NotSound) ≡ survey_of h align (holes h m)
    unfolding survey_of
    survey_ended e g =
        let b = by_end never h m c.gone.fair (all_end c.gone is e) in
        rw (b.1, b.0, c.summed, c.counted, g)

module _ (h : Heap) (m : List ℕ) (align : ℕ) where
  -- what was gathered of holes that keep every rule; else it is refused
  abbrev Surveyed : Result Survey Refusal → Type 0
  Surveyed (Ok s) = (sound_holes h (holes h m) ≡ true) × (s.count ≡ length (holes h m)) × (s.largest ≡ largest_grant align (holes h m))
  Surveyed (Err r) = (sound_holes h (holes h m) ≡ false) × (r ≡ NotSound)

  surveys : Surveyed (survey_of h align (holes h m))
  unfolding survey_of
  surveys = cond_both (sound_holes h (holes h m)) _ _ Surveyed (λ e. (e, refl, refl)) (λ e. (e, refl))

  pub survey_says : {v w : Result Survey Refusal} → v ≡ survey_of h align (holes h m) → v ≡ w → Surveyed w
  survey_says is e = rw (sym is ∙ e) at surveys

-- ---- a report

-- a refused one answers the refusal
pub refused_answer : (c : Call) (h : Heap) (m : List ℕ) {r : Refusal} → Fulfils (after c h m) h m (Err r) → Err r ≡ (after c h m).answer
unfolding carried
refused_answer c h m f = ap (λ (a : After). a.answer) f.is

-- a refused list leaves the rows too
pub refused_list : (h : Heap) (m : List ℕ) (rows : Rows) {r : Refusal} → outcome list h m ≡ refused r
    → (Err r ≡ (after list h m).answer) × (rows ≡ rows_after list h m rows)
refused_list h m rows {r} e = (sym (answer_refused list h m r e), sym (rows_refused list h m r rows e))

module _ (h : Heap) (m : List ℕ) {l : Loan} (on : Lends h m l) where
  module _ (align : ℕ) {v : Result Survey Refusal} (is : v ≡ survey_of l.heap align (holes l.heap l.arena.now)) where
    said : {w : Result Survey Refusal} → v ≡ w → Surveyed h m align w
    said e = survey_says h m align (rw (on.heap, on.arena) at is) e

    pub list_broken : {r : Refusal} → v ≡ Err r → outcome list h m ≡ refused r
    list_broken {r} e =
        let p = passes (length m) h on.checked in
        let s : Surveyed h m align (Err r) = said e in
        list_on h m p.0 p.1 ∙ sifted_broken h (holes h m) _ s.0 ∙ rw s.1

    pub list_told : {s : Survey} → v ≡ Ok s → outcome list h m ≡ told (Listed s.count (size h - h.used)) (holes h m)
    list_told {s} e =
        let p = passes (length m) h on.checked in
        let t : Surveyed h m align (Ok s) = said e in
        list_on h m p.0 p.1 ∙ sifted_sound h (holes h m) _ t.0 ∙ rw t.1

  module _ {align : ℕ} {y : Layout} (lays : Lays min_size align y) {v : Result Survey Refusal} (is : v ≡ survey_of l.heap y.align (holes l.heap l.arena.now)) where
    pub room_broken : {r : Refusal} → v ≡ Err r → outcome (room align) h m ≡ refused r
    room_broken {r} e =
        let p = passes (length m) h on.checked in
        let s : Surveyed h m align (Err r) = said align (rw lays.aligned at is) e in
        room_on h m p.0 p.1 align lays.rounded ∙ sifted_broken h (holes h m) _ s.0 ∙ rw s.1

    pub room_told : {s : Survey} → v ≡ Ok s → outcome (room align) h m ≡ told (Room s.largest s.count) []
    room_told {s} e =
        let p = passes (length m) h on.checked in
        let t : Surveyed h m align (Ok s) = said align (rw lays.aligned at is) e in
        room_on h m p.0 p.1 align lays.rounded ∙ sifted_sound h (holes h m) _ t.0 ∙ rw (t.1, t.2)

-- used is a part of size, the rest of which is free
pub used_fits : (l : Loan) → sound_holes l.heap (holes l.heap l.arena.now) ≡ true → l.heap.used ≤ size l.heap
used_fits l s = omega (arith, sound_sum l.heap l.ready.lent.fair (holes l.heap l.arena.now) s)
