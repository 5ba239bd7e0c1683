-- `joining::insert` meets its contract, whether or not the hole before the span ends there. Assumes nothing.
use mathlib.Core.Path.{sym, ◌∙◌}
use native.Mathlib.Omega.{arith}
use Rattle.joining.proofs.Inserted.{may_merge, may_end, bounds_at, ends_there, insert_apart, insert_joined}
use Rattle.joining.proofs.insert.Goals as goal

pub try_merge_next-merged-requires : goal.try_merge_next-merged-requires
try_merge_next-merged-requires c = may_merge c.args.sound.settled c.requires

pub place_of-at-requires : goal.place_of-at-requires
place_of-at-requires c = (bounds_at c.args.sound.settled c.requires c.try_merge_next-merged.ensures).low

pub ends_at-requires : goal.ends_at-requires
ends_at-requires c = may_end c.args.sound.settled c.requires

pub link-requires : goal.link-requires
link-requires c = (bounds_at c.args.sound.settled c.requires c.try_merge_next-merged.ensures).before

pub returns-then-not-ends_at : goal.returns-then-not-ends_at
returns-then-not-ends_at c = rw c.link.ensures
    (insert_apart c.args.sound.settled c.requires c.try_merge_next-merged.ensures c.place_of-at.ensures
    (sym c.ends_at.ensures ∙ c.if-not-ends_at.true))

pub read_head-before-requires : goal.read_head-before-requires
read_head-before-requires c =
    let there =
    ends_there c.args.sound.settled c.requires c.try_merge_next-merged.ensures c.place_of-at.ensures
    (sym c.ends_at.ensures ∙ c.if-not-ends_at.false) in
    (bounds_at c.args.sound.settled c.requires c.try_merge_next-merged.ensures).before there

pub overflow_add-one : goal.overflow_add-one
overflow_add-one c =
    let there =
    ends_there c.args.sound.settled c.requires c.try_merge_next-merged.ensures c.place_of-at.ensures
    (sym c.ends_at.ensures ∙ c.if-not-ends_at.false) in
    let fits = (bounds_at c.args.sound.settled c.requires c.try_merge_next-merged.ensures).sum there in
    rw c.read_head-before.ensures (omega arith)

pub returns : goal.returns
returns c =
    (insert_joined c.args.sound.settled c.requires c.try_merge_next-merged.ensures c.place_of-at.ensures
    (sym c.ends_at.ensures ∙ c.if-not-ends_at.false) c.read_head-before.ensures)
