-- `walk::one_step::next` meets its contract: each test that returns is a rule that the head breaks. Assumes nothing.
use Rattle.std.proofs.lemmas.Bool.Decides.{nat_tests}
use mathlib.Core.Path.{◌≡◌, refl, ap, ◌∙◌}
use Prim.Native.Nat.{◌+◌, ◌-◌, ◌≤◌, ◌<◌}
use native.Mathlib.Omega.{arith}
use Rattle.rules.specs.Fixed.{min_size}
use Rattle.rules.specs.Kinds.{place_of}
use Rattle.rules.specs.Inner.{Fair}
use Rattle.rules.specs.declared.Addr.{Addr}
use Rattle.rules.specs.declared.Place.{Place}
use Rattle.rules.specs.declared.Heap.{Heap}
use Rattle.walk.proofs.OneStep.{ended, kept, broken, both_eight, eight_both}
use Rattle.walk.proofs.one_step.next.Goals as goal

-- what is known once the place is within reach
reaches : (h : Heap) (at top : Place) → Fair h → top ≡ place_of h.base h.top → at.0 ≤ top.0 - min_size → h.base.0 +
    at.0 + min_size ≤ h.top.0
reaches h at top f p l = let place = ap (λ (q : Place). q.0) p in omega arith

pub overflow_sub-place_of : goal.overflow_sub-place_of
overflow_sub-place_of c =
    let place = ap (λ (p : Place). p.0) c.place_of.ensures in omega arith

pub returns-then-eq : goal.returns-then-eq
returns-then-eq c = c.last.ensures ∙ ended _ _ _ _ (grind (arith, nat_tests))

pub returns-then-place_of-at : goal.returns-then-place_of-at
returns-then-place_of-at c =
    let place = ap (λ (p : Place). p.0) c.place_of.ensures in
    broken _ _ _ _ (grind (arith, nat_tests)) refl refl (λ r. omega arith)

pub read_head-head-requires : goal.read_head-head-requires
read_head-head-requires c =
    let r = reaches _ _ _ c.args.loan.ready.lent.fair c.place_of.ensures c.if-place_of-at.false in
    omega (arith, c.args.loan.ready.lent.lent)

pub addr_of-addr-requires : goal.addr_of-addr-requires
addr_of-addr-requires c =
    let r = reaches _ _ _ c.args.loan.ready.lent.fair c.place_of.ensures c.if-place_of-at.false in
    omega (arith, c.args.loan.ready.lent.fair.low)

pub returns-then-lt : goal.returns-then-lt
returns-then-lt c =
    let r = reaches _ _ _ c.args.loan.ready.lent.fair c.place_of.ensures c.if-place_of-at.false in
    broken _ _ _ _ (λ e. omega (arith, e)) c.addr_of-addr.ensures c.read_head-head.ensures
    (λ r. let order : c.addr_of-addr.result.0 < c.args.floor.0 = grind (arith, nat_tests) in omega arith)

pub returns-then-addr-size-ne0 : goal.returns-then-addr-size-ne0
returns-then-addr-size-ne0 c =
    let r = reaches _ _ _ c.args.loan.ready.lent.fair c.place_of.ensures c.if-place_of-at.false in
    broken _ _ _ _ (λ e. omega (arith, e)) c.addr_of-addr.ensures c.read_head-head.ensures
    (λ r. c.if-addr-size-ne0.true (eight_both _ _ r.addr8 r.size8))

pub returns-then-size-lt-MIN_SIZE : goal.returns-then-size-lt-MIN_SIZE
returns-then-size-lt-MIN_SIZE c =
    let r = reaches _ _ _ c.args.loan.ready.lent.fair c.place_of.ensures c.if-place_of-at.false in
    broken _ _ _ _ (λ e. omega (arith, e)) c.addr_of-addr.ensures c.read_head-head.ensures (λ r. omega arith)

pub overflow_sub-top : goal.overflow_sub-top
overflow_sub-top c =
    let r = reaches _ _ _ c.args.loan.ready.lent.fair c.place_of.ensures c.if-place_of-at.false in
    let e = ap (λ (x : Addr). x.0) c.addr_of-addr.ensures in
    omega arith

pub returns-then-top-addr : goal.returns-then-top-addr
returns-then-top-addr c =
    let r = reaches _ _ _ c.args.loan.ready.lent.fair c.place_of.ensures c.if-place_of-at.false in
    broken _ _ _ _ (λ e. omega (arith, e)) c.addr_of-addr.ensures c.read_head-head.ensures (λ r. omega arith)

pub returns : goal.returns
returns c =
    let r = reaches _ _ _ c.args.loan.ready.lent.fair c.place_of.ensures c.if-place_of-at.false in
    let eights = both_eight c.addr_of-addr.result.0 c.read_head-head.result.size c.if-addr-size-ne0.false in
    let order : c.args.floor.0 ≤ c.addr_of-addr.result.0 = grind (arith, nat_tests) in
    kept _ _ _ _ (λ e. omega (arith, e)) c.addr_of-addr.ensures c.read_head-head.ensures (omega arith)
