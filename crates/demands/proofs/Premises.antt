-- The premises of the demands can be met: two boxes that are played, a good heap, an opening, and numbers that break a rule. Assumes nothing.
use mathlib.Core.Path.{◌≡◌, refl}
use mathlib.Core.List.Memᴰ
use mathlib.Core.List.{List, [], ◌∷◌, ◌++◌, map}
use Prim.Native.Nat.{ℕ, ◌+◌, ◌^◌, ◌≤◌, ◌<◌}
use native.Mathlib.Omega.{arith}
use lib.Count.{ones_in}
use lib.ListN.{get_or, take, drop, replicate, get_or-replicate}
use Rattle.rules.specs.declared.Hole.{Hole}
use Rattle.rules.specs.declared.Heap.{Heap}
use Rattle.rules.specs.Kinds.{addr, place}
use Rattle.rules.specs.Words.{word, store}
use Rattle.rules.specs.Holes.{hole, head_at, put_head, holes_from, first_of, put_heads, total}
use Rattle.rules.specs.Sound.{unopened, sound_numbers, gap, lie, rise, leave_before, leave_after, sound_holes, sound, holes}
use Rattle.rules.specs.Allocate.{rounded, candidate, suits, later, find, grant_of, largest_grant, remains, split}
use Rattle.rules.specs.Free.{in_front, freed, overlaps, eight_to_hole}
use Rattle.rules.specs.Resize.{stretch_end, rest_in_front, resized}
use Rattle.rules.specs.Calls.{Call, allocate, list, opened, taken, given, refitted, grown, gathered, extended, accepted}
use Rattle.rules.specs.Readers.{read_addr}
use Rattle.rules.specs.Refusals.{tests, unless}
use Rattle.rules.specs.Answers.{answer_numbers}
use Rattle.rules.specs.Outcome.{decided, outcome, leaves, after, Rows, over, in_rows, leaves_rows, rows_after}
use Rattle.rules.specs.InWords.{Valid, NoSpan}
use Rattle.rules.specs.Behaviour.{ours, Good}
use Rattle.rules.specs.Runs.{reading, Ask, calls, reads, Honest, start, same_block, without, held_after, box_after, next_box, ends}
use Rattle.rules.specs.Statements.{SameAsks, asks_end, asks_call, asks_reader}
use Rattle.demands.specs.Premises.{lent, story, rows_one, rows_two, unlike, writes, Boxes, OnGood, Met}
use Rattle.rules.proofs.Cases.{apart}
use Rattle.rules.proofs.Multiples.{down_is}
use Rattle.rules.proofs.SoundWords.{rounded_rounds, is_left, words_numbers, words_fair, sound_words, words_sound}
use Rattle.rules.proofs.TestWords.{no_start, no_span}
use Rattle.rules.proofs.Suits.{nothing_room, found_room}
use Rattle.rules.proofs.Walk.{floor_of, sound_walk}
use Rattle.rules.proofs.ResizeWords.{no_stretch}
use Rattle.demands.proofs.Played.{agree, heads_agree, keeps_kept, Move, move_of, stirred, lawful, play}

-- ---- two boxes

-- the memory at the start, all of one byte
abbrev pub noise : ℕ → List ℕ
noise x = replicate 96 x

noise_apart : (x y : ℕ) → (x ≡ y → ⊥) → (i : ℕ) → i < 96 → get_or (noise x) i 0 ≡ get_or (noise y) i 0 → ⊥
noise_apart x y n i l e = n (omega (arith, get_or-replicate 96 i x 0 l, get_or-replicate 96 i y 0 l))

abbrev moves : Rows → List Move
moves r = map (move_of 96) (story r)

-- one call among others may be lent other rows
alike : (asks : List Ask) → SameAsks asks asks
alike [] = asks_end
alike (calls c r n ∷ asks) = asks_call c r r n (alike asks)
alike (reads x ∷ asks) = asks_reader x (alike asks)

alike_but : (front back : List Ask) (c : Call) (r₁ r₂ : Rows) (n : ℕ) → SameAsks (front ++ (calls c r₁ n ∷ back)) (front ++ (calls c r₂ n ∷ back))
alike_but [] back c r₁ r₂ n = asks_call c r₁ r₂ n (alike back)
alike_but (calls d r k ∷ front) back c r₁ r₂ n = asks_call d r r k (alike_but front back c r₁ r₂ n)
alike_but (reads x ∷ front) back c r₁ r₂ n = asks_reader x (alike_but front back c r₁ r₂ n)

-- the heap at the end
abbrev last : Heap
last =
    record {
      base = addr 0x1001;
      len = 96;
      bottom = addr 0x1008;
      top = addr 0x1058;
      first = place 7;
      pending = 1;
      used = 16;
    }

-- the two frees and the two resizes that are accepted name a held block, whatever comes after the story
honest : (asks : List Ask) → Honest asks (ends (story rows_one) start) → Honest (story rows_one ++ asks) start
unfolding ones_in first_of total sound_numbers gap lie rise leave_before leave_after sound_holes sound rounded candidate suits later find grant_of largest_grant remains split in_front freed overlaps eight_to_hole stretch_end rest_in_front resized opened taken given refitted grown gathered extended accepted tests unless decided same_block without answer_numbers held_after box_after next_box ends
honest asks p =
    (tt, (tt, (tt, (tt, (tt, (tt, (λ a h ks e. Memᴰ.tail (Memᴰ.head refl), (λ a h ks e. Memᴰ.head refl, (tt, (λ a h ks e. Memᴰ.head refl, (λ a h ks e. Memᴰ.head refl, (λ a h ks e. cc, (tt, (tt, (λ a h ks e. cc, (tt, (tt, (tt, (tt, (tt, (tt, (tt, (tt, p)))))))))))))))))))))))

boxes : Boxes
unfolding ones_in word store head_at put_head holes_from first_of put_heads total sound_numbers gap lie rise leave_before leave_after sound_holes sound holes rounded candidate suits later find grant_of largest_grant remains split in_front freed overlaps eight_to_hole stretch_end rest_in_front resized opened taken given refitted grown gathered extended accepted tests unless decided outcome leaves after over in_rows leaves_rows rows_after read_addr reading agree heads_agree lawful play unlike writes same_block without answer_numbers held_after box_after next_box ends
boxes =
    let one = play 96 0xa1 (moves rows_one) unopened (noise 0xa0) refl in
    let two = play 96 0xc1 (moves rows_two) unopened (noise 0xc0) refl in
    let w = stirred 96 0xb8 last one.arena in
    record {
      one = noise 0xa0;
      two = noise 0xc0;
      one' = one.arena;
      two' = two.arena;
      heap = last;
      asked = alike_but (take 20 (story rows_one)) (drop 21 (story rows_one)) list rows_one rows_two 96;
      run_one = one.run;
      run_two = two.run;
      apart = noise_apart 0xa0 0xc0 (omega arith);
      apart' = refl;
      writes_one = refl;
      writes_two = refl;
      fits = (tt, (omega arith, (omega arith, (omega arith, (omega arith, (omega arith, (omega arith, omega arith)))))));
      honest = honest [] tt;
      held = refl;
      written = w;
      kept = keeps_kept last one.arena w refl;
      writes_more = refl;
      writes_head = refl;
      honest_more = honest (lent 96 (allocate 16 8) ∷ []) (tt, tt);
      held_before = Memᴰ.head refl;
      held_after = Memᴰ.tail (Memᴰ.head refl);
    }

-- ---- a good heap

-- 24 bytes free, 16 held at 0x1020, 24 free; 3 bytes pending, and 22 behind them
abbrev pub half : Heap
half =
    record {
      base = addr 0x1001;
      len = 96;
      bottom = addr 0x1008;
      top = addr 0x1048;
      first = place 7;
      pending = 3;
      used = 16;
    }

abbrev pub halves : List Hole
halves = hole (addr 0x1008) 24 ∷ hole (addr 0x1030) 24 ∷ []

valid : (s align k : ℕ) → align ≡ 2 ^ k → align < 2 ^ 64 → rounded s + align ≤ 2 ^ 63 → Valid s align (rounded s)
valid s align k e l m = record { fits = l; power = record { exponent = k; is = e }; rounds = rounded_rounds s; room = m }

on_good : OnGood
unfolding word store head_at put_head holes_from first_of put_heads total sound_numbers gap lie rise leave_before leave_after sound_holes sound holes rounded candidate suits later find overlaps eight_to_hole stretch_end
on_good =
    let m = put_heads (addr 0x1001) halves (noise 0xa0) in
    let eight = valid 24 8 3 refl (omega arith) (omega arith) in
    let large = valid 64 8 3 refl (omega arith) (omega arith) in
    let block = valid 16 16 4 refl (omega arith) (omega arith) in
    let good : Good ours half m = (refl, sound_words half (holes half m) refl) in
    let clear : NoSpan half halves 0x1020 16 16 → ⊥ = λ n. apart ((no_span (addr 0x1020) 16 half halves 16).1 n) refl in
    let walk = sound_walk half (words_fair half good.1.0) halves refl in
    record {
      heap = half;
      arena = m;
      good = good;
      two = refl;
      roomy = (24, 8, 24, 0x1008, eight, found_room 24 8 eight.power halves [] (hole (addr 0x1030) 24 ∷ []) (hole (addr 0x1008) 24) refl);
      full = (64, 8, 64, large, nothing_room 64 8 large.power halves (λ k d. (good.1.1.each k d).place) refl);
      span = (
        addr 0x1020,
        16,
        16,
        16,
        block,
        clear,
        refl,
      );
      grown_span = (
        addr 0x1020,
        16,
        16,
        40,
        16,
        40,
        block,
        valid 40 16 4 refl (omega arith) (omega arith),
        omega arith,
        clear,
        λ n. apart ((no_stretch half (hole (addr 0x1020) 16) (floor_of half halves) halves 40 walk).1 n) refl,
      );
      gathers = (4, omega arith, omega arith);
      grows = (14, 16, omega arith, omega arith, down_is 8 17 (omega arith));
      noise = noise 0xa0;
      long = refl;
      unsound = λ p. apart (words_sound half (holes half (noise 0xa0)) p) refl;
    }

-- ---- all of them

pub met : Met
unfolding sound_numbers
met =
    record {
      boxes = boxes;
      on_good = on_good;
      opens =
          (96, 0x1001, 74, 0x1008, 64, λ n. apart ((no_start 96 (addr 0x1001) 74).1 n) refl, is_left 0x1001 74);
      unread = (unopened, λ p. apart (words_numbers unopened p.0) refl);
    }
