-- Ours meets the statements of the calls: each proof at its statement. Assumes nothing.
use Rattle.rules.specs.Behaviour.{ours}
use Rattle.rules.specs.Statements.{Statements}
use Rattle.rules.proofs.SoundWords.{sound_means}
use Rattle.rules.proofs.HoldWords.{unopened_is, holes_mean, bytes_stay}
use Rattle.rules.proofs.Refused.{refusals_exactly}
use Rattle.rules.proofs.Unaltered.{refusals_keep, other_rows, tells_only}
use Rattle.rules.proofs.Numbered.{refusal_numbers_lem, answer_numbers_lem}
use Rattle.rules.proofs.Lowest.{demand2}
use Rattle.rules.proofs.OpenWords.{open_does}
use Rattle.rules.proofs.FreeWords.{free_does, extend_gathers, extend_grows}
use Rattle.rules.proofs.ResizeWords.{resize_does, same_size_granted}
use Rattle.rules.proofs.Reports.{room_does, list_does}
use Rattle.rules.proofs.Readings.{readers_do}
use Rattle.rules.proofs.MemoryWords.{memory}
use Rattle.rules.proofs.SoundKept.{sound_kept}

pub statements : Statements ours
statements =
    record {
      sound_means = sound_means;
      unopened_is = unopened_is;
      holes_mean = holes_mean;
      refusals_exactly = refusals_exactly;
      refusals_keep = refusals_keep;
      refusal_numbers = refusal_numbers_lem;
      answer_numbers = answer_numbers_lem;
      demand2 = demand2;
      open_does = open_does;
      free_does = free_does;
      resize_does = resize_does;
      same_size_granted = same_size_granted;
      extend_gathers = extend_gathers;
      extend_grows = extend_grows;
      room_does = room_does;
      list_does = list_does;
      other_rows = other_rows;
      readers_do = readers_do;
      memory = memory;
      bytes_stay = bytes_stay;
      tells_only = tells_only;
      sound_kept = sound_kept;
    }
