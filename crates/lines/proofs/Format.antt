-- The wire's format holds: each proof at its statement. Assumes nothing.
use Rattle.lines.specs.Statements.{Format}
use Rattle.lines.proofs.FrameWords.{reads_exactly, bad_exactly, one_call, one_spelling, frame_digits_lem}
use Rattle.lines.proofs.LineWords.{each_call, prints_exactly, line_bytes, holes_exactly, speaks_exactly}
use Rattle.lines.proofs.HasRoom.{outcomes_fit}
use Rattle.lines.proofs.ReplyWords.{replies_exactly, answers_exactly, sizes}

pub format : Format
format =
    record {
      reads_exactly = reads_exactly;
      bad_exactly = bad_exactly;
      one_call = one_call;
      each_call = each_call;
      one_spelling = one_spelling;
      frame_digits = frame_digits_lem;
      prints_exactly = prints_exactly;
      line_bytes = line_bytes;
      holes_exactly = holes_exactly;
      speaks_exactly = speaks_exactly;
      outcomes_fit = outcomes_fit;
      replies_exactly = replies_exactly;
      answers_exactly = answers_exactly;
      sizes = sizes;
    }
