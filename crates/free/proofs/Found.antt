-- The search for a span: 5 and 8 as its tests decide them, and what is known of a span that passes. Assumes nothing.
use Rattle.std.proofs.Common.{◌≡◌, sym, ◌∙◌, Result, Ok, Err, true, false, cond, not, List, ℕ, ◌≤◌}
use Rattle.std.proofs.lemmas.Bool.{not-true, not-false}
use Rattle.std.specs.Prelude.{⊤}
use Rattle.rules.specs.Fixed.{min_size}
use Rattle.rules.specs.Tests.{any}
use Rattle.rules.specs.Holes.{hole, holes_from}
use Rattle.rules.specs.Sound.{sound_holes, holes}
use Rattle.rules.specs.Calls.{Outcome, refused}
use Rattle.rules.specs.Outcome.{leaves}
use Rattle.rules.specs.Refusals.{refusal8}
use Rattle.rules.specs.declared.Addr.{Addr}
use Rattle.rules.specs.declared.Decided.{Decided}
use Rattle.rules.specs.declared.Hole.{Hole}
use Rattle.rules.specs.declared.Heap.{Heap}
use Rattle.rules.specs.declared.Refusal.{Refusal}
use Rattle.rules.specs.declared.Refusal.TheVariants.{NotSound, BadSpan}
use Rattle.rules.specs.Inner.{Fulfils, sifted}
use Rattle.rules.proofs.Cases.{cases}
use Rattle.rules.proofs.Written.{fulfils_refused, fulfils_sound, fulfils_broken}
use Rattle.numbers.specs.Ready.{Ready}
use Rattle.walk.specs.Settled.{Settled}
use Rattle.walk.specs.declared.Cursor.{Cursor}
use Rattle.walk.specs.Walk.{Enough, or_5, adds_up, walked_of}
use Rattle.walk.specs.declared.Near.{Near}
use Rattle.walk.proofs.ToEnd.{or_5_broken, or_5_kept}
use Rattle.joining.proofs.Neighbours.{Sought, lies, goes_on}
use Rattle.free.specs.SpanTests.{Around, may_free}
use Rattle.free.specs.Spans.{Spans, span_of}
use Rattle.free.proofs.Spans.{around, may_free_lem, free_span, used_enough}

-- ---- 5 and 8, on all the holes

module _ (h : Heap) (ks : List Hole) (g : Hole) (align : ℕ) where
  pub span_5 : sound_holes h ks ≡ false → span_of h ks g align ≡ Err NotSound
  unfolding span_of
  span_5 e = rw e

  span_8 : sound_holes h ks ≡ true → any (refusal8 h ks g align) ≡ true → span_of h ks g align ≡ Err BadSpan
  unfolding span_of
  span_8 e f = rw (e, f)

  span_on : sound_holes h ks ≡ true → any (refusal8 h ks g align) ≡ false → span_of h ks g align ≡ Ok tt
  unfolding span_of
  span_on e f = rw (e, f)

  span_passes : span_of h ks g align ≡ Ok tt → (sound_holes h ks ≡ true) × (any (refusal8 h ks g align) ≡ false)
  span_passes p =
      cases (sound_holes h ks)
      (λ e.
      cases (any (refusal8 h ks g align))
      (λ f. let k = span_8 e f in cc)
      (λ f. (e, f)))
      (λ e. let k = span_5 e in cc)

  -- what a call that names the span comes to, o where neither is due
  module _ (m : List ℕ) (o : Outcome) where
    abbrev pub of_span : Outcome
    of_span = sifted h ks (cond (any (refusal8 h ks g align)) (refused BadSpan) o)

    pub fulfils_unfit : {r : Refusal} → span_of h ks g align ≡ Err r → Fulfils (leaves h m of_span) h m (Err r)
    fulfils_unfit {r} p =
        cases (sound_holes h ks)
        (λ e.
        cases (any (refusal8 h ks g align))
        (λ f.
        let k = span_8 e f in
        let is : r ≡ BadSpan = cc in
        rw is (fulfils_sound h m ks _ e (rw f (fulfils_refused h m BadSpan))))
        (λ f. let k = span_on e f in cc))
        (λ e. let k = span_5 e in let is : r ≡ NotSound = cc in rw is (fulfils_broken h m ks _ e))

    pub fulfils_fit : {d : Result Decided Refusal} → span_of h ks g align ≡ Ok tt → Fulfils (leaves h m o) h m d
        → Fulfils (leaves h m of_span) h m d
    fulfils_fit p f = let t = span_passes p in fulfils_sound h m ks _ t.0 (rw t.1 f)

-- ---- as the tests decide them

-- the span lies between two neighbours, and the holes keep their rules
pub record Known (h : Heap) (m : List ℕ) (a : Addr) (near : Near) : Type 0 where
  pub sought : Sought h m a near
  pub sound : sound_holes h (holes h m) ≡ true

module _ {h : Heap} {m : List ℕ} {a : Addr} {near : Near} (k : Sought h m a near) {w : Result ⊤ Refusal}
    (says : (n : ℕ) → Enough h near.floor n
    → w ≡ or_5 (adds_up h (walked_of h near.floor near.total (holes_from n h.base m near.cursor.hole)))) where
  -- the walk that goes on behind the neighbours finds a broken rule, or comes to the end
  pub found_5 : (s align : ℕ) {r : Refusal} → w ≡ Err r → span_of h (holes h m) (hole a s) align ≡ Err r
  found_5 s align e =
      let b = or_5_broken (sym (goes_on k says) ∙ e) in
      rw b.1 (span_5 h (holes h m) (hole a s) align b.0)

  pub known : w ≡ Ok tt → Known h m a near
  known e = record { sought = k; sound = or_5_kept (sym (goes_on k says) ∙ e) }

module _ {h : Heap} {m : List ℕ} {a : Addr} {near : Near} (k : Known h m a near) (s : ℕ) where
  pub found_around : Around h near
  found_around = around h near (hole a s) (holes h m) k.sought.fair k.sound (lies k.sought)

  module _ (align : ℕ) (least : min_size ≤ s) where
    decides : may_free h near (hole a s) align ≡ not (any (refusal8 h (holes h m) (hole a s) align))
    decides = may_free_lem h near (hole a s) (holes h m) k.sought.fair k.sound (lies k.sought) least align

    pub found_8 : may_free h near (hole a s) align ≡ false → span_of h (holes h m) (hole a s) align ≡ Err BadSpan
    found_8 e = span_8 h (holes h m) (hole a s) align k.sound (not-false _ (sym decides ∙ e))

    pub found : may_free h near (hole a s) align ≡ true → Spans h m a s align near.cursor
    found e =
        record {
          passed = span_on h (holes h m) (hole a s) align k.sound (not-true _ (sym decides ∙ e));
          free = free_span h near (hole a s) (holes h m) k.sought.fair k.sound (lies k.sought) least align e;
          used = used_enough h near (hole a s) (holes h m) k.sought.fair k.sound (lies k.sought) least align e;
        }

-- the loan of a span that passes keeps every rule
pub settled : {h : Heap} {m : List ℕ} {a : Addr} {s align : ℕ} {cursor : Cursor} → Ready h m → Spans h m a s align cursor
    → Settled h m
settled {h} {m} {a} {s} {align} r p = record { ready = r; sound = (span_passes h (holes h m) (hole a s) align p.passed).0 }
