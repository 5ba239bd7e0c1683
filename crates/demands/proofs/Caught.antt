-- What holds of each call of a behaviour that meets the statements: a refusal comes of no other outcome, the tests are made, a grant lies
-- where demand 2 says, and a resize leaves what its statement says. Assumes nothing.
use mathlib.Core.Path.{◌≡◌, sym, ap, ◌∙◌}
use mathlib.Core.List.{List, ◌∷◌, ◌++◌, Memᴰ}
use mathlib.Core.Logic.{inr, ⊎_elim}
use Prim.Native.Nat.{ℕ, ◌+◌, ◌-◌, ◌^◌, ◌≤◌}
use native.Mathlib.Omega.{arith}
use lib.ListN.{length, get_or}
use Rattle.std.proofs.Common.{Ok, Err}
use Rattle.rules.specs.declared.Addr.{Addr}
use Rattle.rules.specs.declared.Hole.{Hole}
use Rattle.rules.specs.declared.Heap.{Heap}
use Rattle.rules.specs.declared.Refusal.{Refusal}
use Rattle.rules.specs.declared.Refusal.TheVariants.{AlreadyOpened, OtherLength, NotSound, BadLayout}
use Rattle.rules.specs.declared.Answer.{Answer}
use Rattle.rules.specs.declared.Answer.TheVariants.{Allocated}
use Rattle.rules.specs.Kinds.{addr}
use Rattle.rules.specs.Allocate.{rounded}
use Rattle.rules.specs.Changes.{Change, Report}
use Rattle.rules.specs.Calls.{Call, opening, change, report, allocate, free, resize, list, Outcome, refused, told, done, accepted}
use Rattle.rules.specs.InWords.{SoundHoles, Rounds, Valid, sum, Lies, RoomAt, Within, NoLayout, NoSpan, NoStretch}
use Rattle.rules.specs.Runs.{Fits}
use Rattle.rules.specs.Behaviour.{Behaviour}
use Rattle.rules.specs.Statements.{Granted, Refitted, Statements, refusals_of}
use Rattle.demands.specs.Frauds.{Wraps, Grant, UsedHole, Resizing, left, holes_before, holes_after}
use Rattle.rules.proofs.Cases.{by_eq}
use Rattle.rules.proofs.Passes.{Plain, by_change}
use Rattle.rules.proofs.SoundWords.{rounded_rounds, rounds_rounded}
use Rattle.rules.proofs.TestWords.{no_layout}
use Rattle.demands.proofs.OneList.{one_place}
use Rattle.demands.proofs.Verdict.{entry, Before}
use Rattle.demands.proofs.Settles.{decide, valid, by_room, no_rows}
use Rattle.demands.proofs.Determined.{by_outcome}

-- ---- a refusal

-- an answer that comes of no refusal is none
abbrev Accepts : Outcome → Type 0
Accepts (refused r) = Unit {0}
Accepts (told a ks) = Plain (Ok a)
Accepts (done a h ks) = Plain (Ok a)

accepted_accepts : (c : Call) (len : ℕ) (h : Heap) (ks : List Hole) → Accepts (accepted c len h ks)
unfolding accepted
accepted_accepts (opening base named) len h ks = λ r e. cc
accepted_accepts (change c) len h ks = by_change Accepts h ks (λ r e. tt) (λ a h' js e p. p) c len
accepted_accepts (report Report.list) len h ks = λ r e. cc
accepted_accepts (report (Report.room align)) len h ks = λ r e. cc

-- a size to which 7 cannot be added in 64 bits is too large for any alignment
too_large : (s align : ℕ) → 2 ^ 64 ≤ s + 7 → NoLayout s align
too_large s align w = inr (rounded s, rounded_rounds s, omega (arith, w, (rounded_rounds s).covers))

module _ (b : Behaviour) (sb : Statements b) where
  pub refused_of : (c : Call) (h : Heap) (m : List ℕ) (r : Refusal) → Fits c → (b.after c h m).answer ≡ Err r
      → b.outcome c h m ≡ refused r
  refused_of c h m r f e =
      by_outcome (b.outcome c h m)
      (λ x p. let q = (sb.refusals_keep c h m no_rows x p).0 in let s : x ≡ r = cc in p ∙ ap refused s)
      (λ a ks p. let q = (sb.tells_only c h m a ks p).0 in cc)
      (λ a h' ks p. let q = (sb.memory c h m a h' ks f p).0 in cc)

  -- ---- the tests

  -- no unopened heap is refused with 4
  pub not_swapped : (c : Call) (h : Heap) (m : List ℕ) → Fits c → h.bottom.0 ≡ 0 → b.outcome c h m ≡ refused OtherLength → ⊥
  not_swapped (opening base named) h m f z e =
      let d = (sb.refusals_exactly (opening base named) h m f).1 (λ n. n z) in
      d.1 (λ n. let p = d.0 n in cc) OtherLength e
  not_swapped (change c) h m f z e =
      let p = (sb.refusals_exactly (change c) h m f).0 z in cc
  not_swapped (report r) h m f z e =
      let p = (sb.refusals_exactly (report r) h m f).0 z in cc

  -- an opened heap whose sizes do not add up is refused, whatever the call
  module _ (h : Heap) (m : List ℕ) (open' : h.bottom.0 ≡ 0 → ⊥) (n : sum (b.holes h m) + h.used ≡ h.top.0 - h.bottom.0 → ⊥) where
    unsound : {D : Type 0} {o : Outcome} → Before (refusals_of b list h m) D o → (r : Refusal) × (o ≡ refused r)
    unsound d =
        by_eq (length m) h.len
        (λ e. (NotSound, ((d.1 open').1 (λ k. k e)).0 (λ s. n s.1.sums)))
        (λ k. (OtherLength, (d.1 open').0 k))

    pub tested : (c : Call) → Fits c → (r : Refusal) × (b.outcome c h m ≡ refused r)
    tested (opening base named) f = (AlreadyOpened, (sb.refusals_exactly (opening base named) h m f).0 open')
    tested (change c) f = unsound (sb.refusals_exactly (change c) h m f)
    tested (report r) f = unsound (sb.refusals_exactly (report r) h m f)

  -- a size that wraps is refused, whatever the heap and the memory
  pub unwrapped : (c : Call) (h : Heap) (m : List ℕ) → Fits c → Wraps c → (r : Refusal) × (b.outcome c h m ≡ refused r)
  unwrapped (opening base named) h m f w = absurd w
  unwrapped (change (Change.allocate s align)) h m f w =
      let d = sb.refusals_exactly (allocate s align) h m f in
      entry b b sb sb h m (λ r p q. (r, p _ _ d)) (λ p q good good' same. (BadLayout, (p _ _ d).0 (too_large s align w)))
  unwrapped (change (Change.free x s align)) h m f w =
      let d = sb.refusals_exactly (free x s align) h m f in
      entry b b sb sb h m (λ r p q. (r, p _ _ d)) (λ p q good good' same. (BadLayout, (p _ _ d).0 (too_large s align w)))
  unwrapped (change (Change.resize x s align n)) h m f w =
      let d = sb.refusals_exactly (resize x s align n) h m f in
      entry b b sb sb h m (λ r p q. (r, p _ _ d))
      (λ p q good good' same.
      decide (no_layout s align f.2)
      (λ t. (BadLayout, (p _ _ d).0 t))
      (λ t. (BadLayout, ((p _ _ d).1 t).0 (⊎_elim (λ l. absurd (t (too_large s align l))) (λ l. too_large n align l) w))))
  unwrapped (change (Change.extend by)) h m f w = absurd w
  unwrapped (report r) h m f w = absurd w

  -- ---- a grant

  granted_of : (s align : ℕ) (h : Heap) (m : List ℕ) (x n : ℕ) → Fits (allocate s align)
      → (b.after (allocate s align) h m).answer ≡ Ok (Allocated (addr x) n)
      → (r : ℕ) × Rounds s r × SoundHoles h (b.holes h m)
      × (g : Granted r align h (b.holes h m) (b.outcome (allocate s align) h m)) × (g.at ≡ x) × (length g.front + 1 ≡ n)
  granted_of s align h m x n f e =
      let c = allocate s align in
      let d = sb.refusals_exactly c h m f in
      let never : (y : Refusal) → b.outcome c h m ≡ refused y → ⊥ =
      λ y p. let q = (sb.refusals_keep c h m no_rows y p).0 in cc in
      entry b b sb sb h m
      (λ y p q. absurd (never y (p _ _ d)))
      (λ p q good good' same.
      decide (no_layout s align f.1)
      (λ t. absurd (never _ ((p _ _ d).0 t)))
      (λ t.
      let r = rounded s in
      let v = valid s align f.1 t in
      let demand = sb.demand2 h m s align r good v in
      by_room r align h (b.holes h m) v.power good.1.1
      (λ some.
      let g = demand.0 some in
      let a = (sb.memory c h m _ g.heap g.new f g.answer).0 in
      let at : addr g.at ≡ addr x = cc in
      (r, v.rounds, good.1.1, g, ap (λ (y : Addr). y.0) at, cc))
      (λ none. absurd (never _ (demand.1 none)))))

  -- so a grant is the one that demand 2 speaks of
  module _ (g : Grant b) where
    abbrev ks : List Hole
    ks = b.holes g.heap g.arena

    pub record Granting : Type 0 where
      pub rounded : ℕ
      pub rounds : Rounds g.size rounded
      pub sound : SoundHoles g.heap ks
      pub front : List Hole
      pub hole : Hole
      pub back : List Hole
      pub one : ks ≡ front ++ (hole ∷ back)
      pub lies : Lies rounded g.align hole g.at
      pub lowest : (x : ℕ) → RoomAt rounded g.align ks x → g.at ≤ x
      pub count : g.count ≡ length front + 1

    pub granting : Granting
    granting =
        let (r, rounds, s, d, at, count) = granted_of g.size g.align g.heap g.arena g.at g.count g.fits g.answer in
        record {
          rounded = r;
          rounds = rounds;
          sound = s;
          front = d.front;
          hole = d.used;
          back = d.back;
          one = d.one;
          lies = rw at at d.lies;
          lowest = rw at at d.lowest;
          count = sym count;
        }

    -- and the hole in which it lies is the used one
    pub used_one : (u : UsedHole b g) → (granting.front ≡ u.front) × (granting.hole ≡ u.hole)
    used_one u =
        let d = granting in
        let (front, hole, back) =
        one_place g.heap ks d.front u.front d.back u.back d.hole u.hole g.at d.sound d.one u.one
        d.lies.from (omega (arith, d.lies.to, d.rounds.sixteen)) u.inside.0 u.inside.1 in
        (front, hole)

  -- ---- a resize

  module _ (g : Resizing b) where
    abbrev call : Call
    call = resize g.at g.size g.align g.new_size

    -- the block resized leaves this heap and these holes
    abbrev Leaves : Heap → List Hole → Type 0
    Leaves h ks = Refitted g.heap (holes_before b g) g.at.0 g.old g.new (g.heap.used - g.old + g.new) h ks

    -- every byte that lies in no head of them is what it was
    abbrev Stay : Heap → List Hole → Type 0
    Stay h ks =
        (i : ℕ) → ((k : Hole) → Memᴰ k ks → Within (k.addr.0 - h.base.0) 16 i → ⊥)
        → get_or (left b g).arena i 0 ≡ get_or g.arena i 0

    leaves_of : (a : Answer) (h : Heap) (ks : List Hole) → b.outcome call g.heap g.arena ≡ done a h ks → Leaves h ks
        → Leaves (left b g).heap (holes_after b g) × Stay (left b g).heap (holes_after b g)
    leaves_of a h ks e is =
        let k = sb.memory call g.heap g.arena a h ks g.fits e in
        let new : holes_after b g ≡ ks = ap (λ (f : Heap). b.holes f (left b g).arena) k.1 ∙ k.3 in
        (rw (new, k.1) is, rw (new, k.1) k.4)

    -- so nothing stood against it, and it leaves what is said of it
    pub record Refitting : Type 0 where
      pub span : NoSpan g.heap (holes_before b g) g.at.0 g.old g.align → ⊥
      pub stretch : NoStretch (holes_before b g) g.at.0 g.old g.new → ⊥
      pub leaves : Leaves (left b g).heap (holes_after b g)
      pub stay : Stay (left b g).heap (holes_after b g)

    pub refitting : Refitting
    refitting =
        let h = g.heap in
        let m = g.arena in
        let d = sb.refusals_exactly call h m g.fits in
        let never : (y : Refusal) → b.outcome call h m ≡ refused y → ⊥ =
        λ y p. let q = (sb.refusals_keep call h m no_rows y p).0 in let e = g.answer in cc in
        entry b b sb sb h m
        (λ y p q. absurd (never y (p _ _ d)))
        (λ p q good good' same.
        let rows = p _ _ d in
        let old : NoLayout g.size g.align → ⊥ = λ t. never _ (rows.0 t) in
        let new : NoLayout g.new_size g.align → ⊥ = λ t. never _ ((rows.1 old).0 t) in
        let free : ((r : ℕ) × Rounds g.size r × NoSpan h (holes_before b g) g.at.0 r g.align) → ⊥ =
        λ t. never _ (((rows.1 old).1 new).0 t) in
        let span : NoSpan h (holes_before b g) g.at.0 g.old g.align → ⊥ = λ t. free (g.old, g.rounds, t) in
        let stretch : NoStretch (holes_before b g) g.at.0 g.old g.new → ⊥ =
        λ t. never _ ((((rows.1 old).1 new).1 free).0 (g.old, g.rounds, (g.new, g.new_rounds, t))) in
        let v : Valid g.size g.align g.old = rw (rounds_rounded g.rounds) (valid g.size g.align g.fits.2 old) in
        let w : Valid g.new_size g.align g.new =
        rw (rounds_rounded g.new_rounds) (valid g.new_size g.align g.fits.2 new) in
        let (f, ks, e, u, is) = sb.resize_does h m g.at g.size g.align g.new_size g.old g.new good v w span stretch in
        let (leaves, stay) = leaves_of _ f ks e is in
        record { span = span; stretch = stretch; leaves = leaves; stay = stay })
