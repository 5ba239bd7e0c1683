-- What a call comes to where its heap is refused the arena, or its request a layout; and a request on its own. Assumes nothing.
use Rattle.std.proofs.Common.{◌≡◌, Result, Ok, Err, MatchResult, IfOk, false, List, ◌∷◌, ℕ, length}
use Rattle.rules.specs.Sound.{holes}
use Rattle.rules.specs.Calls.{Call}
use Rattle.rules.specs.Refusals.{Test, test, refusal6}
use Rattle.rules.specs.Outcome.{after}
use Rattle.rules.specs.declared.Heap.{Heap}
use Rattle.rules.specs.declared.Refusal.{Refusal}
use Rattle.rules.specs.declared.Refusal.TheVariants.{BadLayout}
use Rattle.rules.specs.Inner.{Fulfils}
use Rattle.rules.proofs.Decide.{rest, Opens}
use Rattle.rules.proofs.Calls.{layout_6}
use Rattle.rules.proofs.Written.{fulfils_later}
use Rattle.numbers.specs.Checks.{checked_of}
use Rattle.numbers.specs.Lends.{Lends}
use Rattle.numbers.specs.declared.loan.Loan.{Loan}
use Rattle.numbers.proofs.Verdicts.{passes, fulfils_no}
use Rattle.layout.specs.Lays.{Lays}
use Rattle.layout.specs.declared.valid.Layout.{Layout}
use Rattle.request.specs.Requested.{Denied, by_layout, by_numbers, request_of}

module _ (c : Call) (later : Opens c ≡ false) (h : Heap) (m : List ℕ) where
  -- by what `lend` says
  pub lend_refused : {v : Result Loan Refusal} {r : Refusal} → MatchResult v (Lends h m) (λ e. checked_of (length m) h ≡ Err e) → v ≡ Err r
      → Fulfils (after c h m) h m (Err r)
  lend_refused said e = fulfils_no c h m later (rw e at said)

  -- by what `requested` says, of a call whose first test behind 5 is 6
  module _ (s align : ℕ) {ts : List Test} (six : rest c h (holes h m) ≡ test BadLayout (refusal6 s align) ∷ ts) where
    pub requested_refused : {l : Loan} → Lends h m l → {v : Result Layout Refusal} {r : Refusal}
        → MatchResult v (Lays s align) (Denied l.heap l.arena.now s align) → v ≡ Err r → Fulfils (after c h m) h m (Err r)
    requested_refused on {r = r} said e =
        let p = passes (length m) h on.checked in
        let d : Denied h m s align r = rw (e, on.heap, on.arena) at said in
        rw d.why (fulfils_later c h m BadLayout (layout_6 h m p.0 p.1 c later s align six d.layout))

-- a request on its own: by what `lend` says, and behind it by what `requested` says
module _ (h : Heap) (m : List ℕ) (s align : ℕ) where
  pub not_lent : {r : Refusal} → checked_of (length m) h ≡ Err r → request_of h m s align ≡ Err r
  unfolding by_numbers
  not_lent e = rw e

  pub asked : {l : Loan} → Lends h m l → (v : Result Layout Refusal) → MatchResult v (Lays s align) (Denied l.heap l.arena.now s align)
      → MatchResult v (λ y. request_of h m s align ≡ Ok y.size) (λ r. request_of h m s align ≡ Err r)
  unfolding by_numbers by_layout
  asked on (Ok y) said = rw (on.checked, said.rounded)
  asked on (Err r) said = rw (on.checked, said.layout, said.why, ← on.heap, ← on.arena)

  pub asked_align : {l : Loan} → Lends h m l → (v : Result Layout Refusal)
      → MatchResult v (Lays s align) (Denied l.heap l.arena.now s align) → IfOk v (λ y. y.align ≡ align)
  asked_align on (Ok y) said = said.aligned
  asked_align on (Err r) said = tt
