-- What ours does on one heap, by computation, and with it every behaviour that meets the statements. Assumes nothing.
use mathlib.Core.Path.{◌≡◌, refl, sym, ap, ◌∙◌}
use mathlib.Core.Bool.{true}
use mathlib.Core.List.{List, [], ◌∷◌}
use Prim.Native.Nat.{ℕ, ◌+◌, ◌<◌}
use native.Mathlib.Omega.{arith}
use Rattle.std.proofs.Common.{Result, Ok}
use lib.Count.{ones_in}
use lib.ListN.{length, get_or, get_or-replicate, get_or-eq_default}
use Rattle.rules.specs.declared.Heap.{Heap}
use Rattle.rules.specs.declared.Refusal.{Refusal}
use Rattle.rules.specs.declared.Answer.{Answer}
use Rattle.rules.specs.declared.Answer.TheVariants.{Opened, Allocated, Freed, Resized, Extended, Listed, Room}
use Rattle.rules.specs.Kinds.{addr}
use Rattle.rules.specs.Words.{word, store}
use Rattle.rules.specs.Holes.{hole, head_at, put_head, holes_from, first_of, put_heads, total}
use Rattle.rules.specs.Sound.{unopened, sound_numbers, gap, lie, rise, leave_before, leave_after, sound_holes, sound, holes}
use Rattle.rules.specs.Allocate.{rounded, candidate, suits, later, find, grant_of, largest_grant, remains, split}
use Rattle.rules.specs.Free.{in_front, freed, overlaps, eight_to_hole}
use Rattle.rules.specs.Resize.{stretch_end, rest_in_front, resized}
use Rattle.rules.specs.Calls.{Call, opening, allocate, free, resize, extend, list, room, opened, taken, given, refitted, grown, gathered, extended, accepted}
use Rattle.rules.specs.Refusals.{tests, unless}
use Rattle.rules.specs.Outcome.{decided, outcome, leaves, After, after}
use Rattle.rules.specs.InWords.{Sound}
use Rattle.rules.specs.Runs.{Fits}
use Rattle.rules.specs.Behaviour.{Behaviour, ours}
use Rattle.rules.specs.Statements.{Statements, Same}
use Rattle.rules.specs.Inner.{Bytes}
use Rattle.demands.specs.Frauds.{Asked}
use Rattle.rules.proofs.Cases.{by_le}
use Rattle.rules.proofs.Lists.{put_heads_bytes}
use Rattle.rules.proofs.SoundWords.{sound_words}
use Rattle.rules.proofs.Statements.{statements}
use Rattle.demands.proofs.Premises.{noise, half, halves}
use Rattle.demands.proofs.Determined.{determined}

-- the memory of the heap that is half free
abbrev pub stage : List ℕ
stage = put_heads (addr 0x1001) halves (noise 0xa0)

noise_bytes : (x : ℕ) → x < 256 → Bytes (noise x)
noise_bytes x l i =
    by_le 96 i
    (λ out. omega (arith, get_or-eq_default (noise x) 0 {n = i} out))
    (λ in'. omega (arith, get_or-replicate 96 i x 0 in'))

pub stage_bytes : Bytes stage
stage_bytes = put_heads_bytes (addr 0x1001) halves (noise 0xa0) (noise_bytes 0xa0 (omega arith))

-- that heap with one more byte pending
abbrev pub more : Heap
more =
    record {
      base = half.base;
      len = half.len;
      bottom = half.bottom;
      top = half.top;
      first = half.first;
      pending = half.pending + 1;
      used = half.used;
    }

abbrev pub opens : Call
opens = opening (addr 0x1001) 74

-- the free of the held block, and what it leaves
abbrev pub freeing : Call
freeing = free (addr 0x1020) 16 16

abbrev emptied : After
emptied = after freeing half stage

-- the held block takes the hole behind it
abbrev pub growing : Call
growing = resize (addr 0x1020) 16 16 40

-- ---- ours

pub record Shown : Type 0 where
  pub opening : (after opens unopened stage).answer ≡ Ok (Opened (addr 0x1008) 64)
  pub rest : (after opens unopened stage).heap.pending ≡ 3
  pub tops : (after opens unopened stage).heap.top.0 ≡ 0x1048
  pub long : length stage ≡ 96
  pub good : sound half (holes half stage) ≡ true
  pub two : holes half stage ≡ halves
  pub low : (after (allocate 24 8) half stage).answer ≡ Ok (Allocated (addr 0x1008) 1)
  pub high : (after (allocate 24 16) half stage).answer ≡ Ok (Allocated (addr 0x1030) 2)
  pub frees : emptied.answer ≡ Ok (Freed 16 0)
  pub empty : emptied.heap.used ≡ 0
  good_more : sound more (holes more stage) ≡ true
  good_then : sound emptied.heap (holes emptied.heap emptied.arena) ≡ true
  pub joined : holes emptied.heap emptied.arena ≡ hole (addr 0x1008) 64 ∷ []
  pub again : (after (allocate 16 16) emptied.heap emptied.arena).answer ≡ Ok (Allocated (addr 0x1020) 1)
  pub resizes : (after growing half stage).answer ≡ Ok (Resized 40 40)
  pub larger : (after growing half stage).heap.used ≡ 40
  -- the first byte of the held block
  pub held : get_or stage 31 0 ≡ 0xa0
  pub grows : (after (extend 14) half stage).answer ≡ Ok (Extended 80 1)
  pub grows_more : (after (extend 14) more stage).answer ≡ Ok (Extended 80 2)
  pub lists : (after list half stage).answer ≡ Ok (Listed 2 48)
  pub reports : (after (room 8) half stage).answer ≡ Ok (Room 24 2)
  pub crooked : (after (room 32) half stage).answer ≡ Ok (Room 0 2)

pub shown : Shown
unfolding ones_in word store head_at put_head holes_from first_of put_heads total sound_numbers gap lie rise leave_before leave_after sound_holes sound holes rounded candidate suits later find grant_of largest_grant remains split in_front freed overlaps eight_to_hole stretch_end rest_in_front resized opened taken given refitted grown gathered extended accepted tests unless decided outcome leaves after
shown =
    record {
      opening = refl;
      rest = refl;
      tops = refl;
      long = refl;
      good = refl;
      two = refl;
      low = refl;
      high = refl;
      frees = refl;
      empty = refl;
      good_more = refl;
      good_then = refl;
      joined = refl;
      again = refl;
      resizes = refl;
      larger = refl;
      held = refl;
      grows = refl;
      grows_more = refl;
      lists = refl;
      reports = refl;
      crooked = refl;
    }

-- ---- on one heap, all that meet the statements do as ours

module _ (b : Behaviour) (sb : Statements b) where
  same : Same ours b
  same = determined ours b statements sb

  pub does : (c : Call) (h : Heap) → Fits c → after c h stage ≡ b.after c h stage
  does c h f = same.after c h stage f stage_bytes

  pub says : (c : Call) (h : Heap) {a : Result Answer Refusal} → Fits c → (after c h stage).answer ≡ a → (b.after c h stage).answer ≡ a
  says c h f e = ap (λ (x : After). x.answer) (sym (does c h f)) ∙ e

  reads : (h : Heap) (m : List ℕ) → sound h (holes h m) ≡ true → Sound h (b.holes h m) × (b.holes h m ≡ holes h m)
  reads h m t =
      let s = sound_words h (holes h m) t in
      let e = same.holes h m s in
      (rw (← e) s, sym e)

  pub asked : (c : Call) → Fits c → Asked b c half stage
  asked c f = ((f, stage_bytes), (shown.long, (reads half stage shown.good).0))

  pub asked_more : (c : Call) → Fits c → Asked b c more stage
  asked_more c f = ((f, stage_bytes), (shown.long, (reads more stage shown.good_more).0))

  pub two : b.holes half stage ≡ halves
  two = (reads half stage shown.good).1 ∙ shown.two

  -- the free of the held block
  pub asked_free : Asked b freeing half stage
  asked_free = asked freeing (omega arith)

  pub says_freed : (b.after freeing half stage).answer ≡ Ok (Freed 16 0)
  says_freed = says freeing half (omega arith) shown.frees

  pub empties : b.after freeing half stage ≡ emptied
  empties = sym (does freeing half (omega arith))

  pub one : b.holes emptied.heap emptied.arena ≡ hole (addr 0x1008) 64 ∷ []
  one = (reads emptied.heap emptied.arena shown.good_then).1 ∙ shown.joined

  pub grants_again : (b.after (allocate 16 16) emptied.heap emptied.arena).answer ≡ Ok (Allocated (addr 0x1020) 1)
  grants_again =
      let bytes = statements.bytes_stay freeing half stage stage_bytes in
      ap (λ (x : After). x.answer) (sym (same.after (allocate 16 16) emptied.heap emptied.arena (omega arith) bytes)) ∙ shown.again

  -- the resize of the held block
  pub asked_growing : Asked b growing half stage
  asked_growing = asked growing (omega arith)

  pub says_resized : (b.after growing half stage).answer ≡ Ok (Resized 40 40)
  says_resized = says growing half (omega arith) shown.resizes

  -- an opening
  pub says_open : (b.after opens unopened stage).answer ≡ Ok (Opened (addr 0x1008) 64)
  says_open = says opens unopened (omega arith) shown.opening
