-- What a line comes to is what the words say. Assumes nothing.
use mathlib.Core.Path.{◌≡◌, refl, sym, ap, ◌∙◌}
use mathlib.Core.List.{List}
use Rattle.std.specs.Prelude.{Option, Some, None}
use Prim.Native.Nat.{ℕ, ◌+◌, ◌*◌, ◌≤◌}
use native.Mathlib.Omega.{arith}
use lib.ListN.{length, take, length-append}
use Rattle.rules.specs.Kinds.{addr}
use Rattle.rules.specs.Calls.{Call, opening, allocate, free, resize, extend, list, room}
use Rattle.rules.specs.Runs.{Fits}
use Rattle.rules.specs.Answers.{answer_numbers}
use Rattle.rules.specs.Outcome.{outcome, leaves}
use Rattle.rules.specs.declared.Heap.{Heap}
use Rattle.rules.proofs.Cases.{cases}
use Rattle.lines.specs.declared.reading.Frame.{Frame}
use Rattle.lines.specs.declared.reading.Frame.TheVariants as is
use Rattle.lines.specs.Frames.{frame_of}
use Rattle.lines.specs.Wire.{numbers_line, hole_lines, spoken, Reply, reply_to, reply, replied}
use Rattle.lines.specs.Format.{IsFrame, OutcomeFits, Does, DoesNothing, ComesTo}
use Rattle.lines.specs.Statements.{RepliesExactly, AnswersExactly, Sizes}
use Rattle.lines.proofs.FrameWords.{reads, by_read, bad_exactly, frame_digits_lem}
use Rattle.lines.proofs.HasRoom.{outcomes_fit}
use Rattle.lines.proofs.LineWords.{prints_exactly, speaks_exactly}
use Rattle.lines.proofs.Placed.{line_length}
use Rattle.lines.proofs.FromRows.{lines_length}
use Rattle.lines.proofs.Spoken.{shown, spoken_is, lists, lists_list, call_shown, listing}

same : (r s : Reply) → r.printed ≡ s.printed → r.heap ≡ s.heap → r.arena ≡ s.arena → r ≡ s
same r s p h m = λ i. record { printed = p i; heap = h i; arena = m i }

module _ (h : Heap) (m : List ℕ) (r : Reply) where
  -- ---- of a call

  does_is : (c : Call) → OutcomeFits (outcome c h m) → Does c h m r → r ≡ reply_to c h m
  does_is c l d = same r (reply_to c h m) ((speaks_exactly r.printed (outcome c h m) l).0 d.printed) d.heap d.arena

  is_does : (c : Call) → OutcomeFits (outcome c h m) → r ≡ reply_to c h m → Does c h m r
  is_does c l e =
      record {
        printed = (speaks_exactly r.printed (outcome c h m) l).1 (ap (λ x. x.printed) e);
        heap = ap (λ x. x.heap) e;
        arena = ap (λ x. x.arena) e;
      }

  -- ---- of a line that is none

  nothing_is : DoesNothing h m r → r ≡ reply None h m
  unfolding reply
  nothing_is d =
      same r _ ((prints_exactly r.printed 0xff 0 0 (omega arith) (omega arith) (omega arith)).0 d.printed) d.heap d.arena

  is_nothing : r ≡ reply None h m → DoesNothing h m r
  unfolding reply
  is_nothing e =
      record {
        printed = (prints_exactly r.printed 0xff 0 0 (omega arith) (omega arith) (omega arith)).1 (ap (λ x. x.printed) e);
        heap = ap (λ x. x.heap) e;
        arena = ap (λ x. x.arena) e;
      }

  -- ---- of any line

  fit : (c : Call) → Fits c → OutcomeFits (outcome c h m)
  fit c f = outcomes_fit c h m f

  module _ (bytes : List ℕ) where
    comes_is : ComesTo bytes h m r → (f : Frame) → IsFrame bytes f → r ≡ reply (Some f) h m
    unfolding reply
    comes_is d (is.Open base named) s =
        does_is (opening (addr base) named) (fit _ (frame_digits_lem bytes (is.Open base named) s).1) (d.opens base named s)
    comes_is d (is.Allocate n align) s =
        does_is (allocate n align) (fit _ (frame_digits_lem bytes (is.Allocate n align) s).1) (d.allocates n align s)
    comes_is d (is.Free a n align) s =
        does_is (free (addr a) n align) (fit _ (frame_digits_lem bytes (is.Free a n align) s).1) (d.frees a n align s)
    comes_is d (is.Extend by) s = does_is (extend by) (fit _ (frame_digits_lem bytes (is.Extend by) s).1) (d.extends by s)
    comes_is d is.List s = does_is list (fit _ tt) (d.lists s)
    comes_is d (is.Room align) s = does_is (room align) (fit _ (frame_digits_lem bytes (is.Room align) s).1) (d.reports align s)
    comes_is d (is.Resize a n align k) s =
        does_is (resize (addr a) n align k) (fit _ (frame_digits_lem bytes (is.Resize a n align k) s).1) (d.resizes a n align k s)

    is_comes : r ≡ replied bytes h m → ComesTo bytes h m r
    unfolding reply
    is_comes e =
        let as_read : (f : Frame) → IsFrame bytes f → r ≡ reply (Some f) h m = λ f s. e ∙ ap (λ g. reply g h m) (reads bytes f s) in
        record {
          opens = λ base named s.
              is_does (opening (addr base) named) (fit _ (frame_digits_lem bytes (is.Open base named) s).1) (as_read (is.Open base named) s);
          allocates = λ n align s.
              is_does (allocate n align) (fit _ (frame_digits_lem bytes (is.Allocate n align) s).1) (as_read (is.Allocate n align) s);
          frees = λ a n align s.
              is_does (free (addr a) n align) (fit _ (frame_digits_lem bytes (is.Free a n align) s).1) (as_read (is.Free a n align) s);
          extends = λ by s. is_does (extend by) (fit _ (frame_digits_lem bytes (is.Extend by) s).1) (as_read (is.Extend by) s);
          lists = λ s. is_does list (fit _ tt) (as_read is.List s);
          reports = λ align s. is_does (room align) (fit _ (frame_digits_lem bytes (is.Room align) s).1) (as_read (is.Room align) s);
          resizes = λ a n align k s.
              is_does (resize (addr a) n align k) (fit _ (frame_digits_lem bytes (is.Resize a n align k) s).1) (as_read (is.Resize a n align k) s);
          others = λ n. is_nothing (e ∙ ap (λ g. reply g h m) ((bad_exactly bytes).0 n));
        }

    comes_to_lem : ComesTo bytes h m r → r ≡ replied bytes h m
    comes_to_lem d =
        by_read bytes (λ f e s. comes_is d f s ∙ ap (λ g. reply g h m) (sym e))
        (λ b. nothing_is (d.others ((bad_exactly bytes).1 b)) ∙ ap (λ g. reply g h m) (sym b))

pub replies_exactly : RepliesExactly
replies_exactly bytes h m r = (comes_to_lem h m r bytes, is_comes h m r bytes)

-- ---- what is promised of the code

pub answers_exactly : AnswersExactly
answers_exactly bytes h m r out m' =
    let a : Reply = record { printed = take r.len out; heap = r.heap; arena = m' } in (
      λ (e, p, i, l). ((replies_exactly bytes h m a).1 (same a (replied bytes h m) p e i), l),
      λ (d, l).
          let e = (replies_exactly bytes h m a).0 d in
          (ap (λ x. x.heap) e, ap (λ x. x.printed) e, ap (λ x. x.arena) e, l),
    )

-- ---- how long it is

spoken_length : (c : Call) (h : Heap) (m : List ℕ) → length (spoken (outcome c h m)) ≡ 35 + 35 * length (shown (outcome c h m))
spoken_length c h m =
    let o = outcome c h m in
    let n = answer_numbers (leaves h m o).answer in
    rw (spoken_is h m o, length-append (numbers_line n) (hole_lines (shown o)), line_length n.no n.one n.two, lines_length (shown o))

call_enough : (c : Call) (h : Heap) (m : List ℕ) → length m ≡ 65536 → length (spoken (outcome c h m)) ≤ 71715
call_enough c h m w =
    cases (lists c)
    (λ e. rw (lists_list c e) (omega (arith, spoken_length list h m, (listing h m).few)))
    (λ e. omega (arith, spoken_length c h m, ap length (call_shown c h m e)))

enough : (f : Option Frame) (h : Heap) (m : List ℕ) → length m ≡ 65536 → length (reply f h m).printed ≤ 71715
unfolding reply
enough (Some (is.Open base named)) h m w = call_enough (opening (addr base) named) h m w
enough (Some (is.Allocate n align)) h m w = call_enough (allocate n align) h m w
enough (Some (is.Free a n align)) h m w = call_enough (free (addr a) n align) h m w
enough (Some (is.Extend by)) h m w = call_enough (extend by) h m w
enough (Some is.List) h m w = call_enough list h m w
enough (Some (is.Room align)) h m w = call_enough (room align) h m w
enough (Some (is.Resize a n align k)) h m w = call_enough (resize (addr a) n align k) h m w
enough None h m w = omega (arith, line_length 0xff 0 0)

pub sizes : Sizes
sizes = record { frame = refl; arena = refl; holes = refl; enough = λ bytes. enough (frame_of bytes) }
