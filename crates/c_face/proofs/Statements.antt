-- What the caller is promised holds: each proof at its statement. Assumes nothing.
use Rattle.c_face.specs.Statements.{Statements}
use Rattle.c_face.proofs.Returned.{words_name, heap_named, words_return, heap_returns}
use Rattle.c_face.proofs.Refused.{refused_leaves, refused_tells, refused_rows}
use Rattle.c_face.proofs.Accepted.{open_leaves, allocate_leaves, free_leaves, resize_leaves, extend_leaves}
use Rattle.c_face.proofs.Told.{list_leaves}

pub statements : Statements
statements =
    record {
      words_name = words_name;
      heap_named = heap_named;
      words_return = words_return;
      heap_returns = heap_returns;
      refused_leaves = refused_leaves;
      refused_tells = refused_tells;
      refused_rows = refused_rows;
      open_leaves = open_leaves;
      allocate_leaves = allocate_leaves;
      free_leaves = free_leaves;
      resize_leaves = resize_leaves;
      extend_leaves = extend_leaves;
      list_leaves = list_leaves;
    }
