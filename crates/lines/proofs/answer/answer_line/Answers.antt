-- `lines::answer::answer_line` meets its contract: a frame is a call, and what the call prints and leaves is what the line comes to.
-- Assumes nothing.
use mathlib.Core.Path.{refl}
use Rattle.rules.specs.Changes.{Report}
use Rattle.rules.specs.Calls.{opening, allocate, free, resize, extend, room}
use Rattle.lines.specs.Wire.{reply}
use Rattle.lines.proofs.Placed.{line_front}
use Rattle.lines.proofs.Spoken.{report_stays}
use Rattle.lines.proofs.Answered.{line_answered, list_answered}
use borrow.Author.Rules.{rules}
use Rattle.lines.proofs.answer.answer_line.Goals as goal

pub returns-in-Open : goal.returns-in-Open
unfolding reply
returns-in-Open c =
    let s = c.args in
    line_answered s.line.now (opening _ _) s.h s.arena.now c.tell.result c.tell.new.out c.in-Some.ensures c.in-Open.is refl
    refl c.«open».ensures c.tell.ensures

pub returns-in-Allocate : goal.returns-in-Allocate
unfolding reply
returns-in-Allocate c =
    let s = c.args in
    line_answered s.line.now (allocate _ _) s.h s.arena.now c.tell-in-Allocate.result c.tell-in-Allocate.new.out
    c.in-Some.ensures c.in-Allocate.is refl refl c.allocate.ensures c.tell-in-Allocate.ensures

pub returns-in-Free : goal.returns-in-Free
unfolding reply
returns-in-Free c =
    let s = c.args in
    line_answered s.line.now (free _ _ _) s.h s.arena.now c.tell-in-Free.result c.tell-in-Free.new.out
    c.in-Some.ensures c.in-Free.is refl refl c.free.ensures c.tell-in-Free.ensures

pub returns-in-Resize : goal.returns-in-Resize
unfolding reply
returns-in-Resize c =
    let s = c.args in
    line_answered s.line.now (resize _ _ _ _) s.h s.arena.now c.tell-in-Resize.result c.tell-in-Resize.new.out
    c.in-Some.ensures c.in-Resize.is refl refl c.resize.ensures c.tell-in-Resize.ensures

pub returns-in-Extend : goal.returns-in-Extend
unfolding reply
returns-in-Extend c =
    let s = c.args in
    line_answered s.line.now (extend _) s.h s.arena.now c.tell-in-Extend.result c.tell-in-Extend.new.out
    c.in-Some.ensures c.in-Extend.is refl refl c.extend.ensures c.tell-in-Extend.ensures

pub returns-in-List : goal.returns-in-List
unfolding reply
returns-in-List c =
    let s = c.args in
    list_answered s.line.now s.h s.arena.now c.tell_list.result c.tell_list.new.out c.in-Some.ensures c.in-List.is refl
    c.tell_list.ensures

pub returns-in-Room : goal.returns-in-Room
unfolding reply
returns-in-Room c =
    let s = c.args in
    let y = report_stays (Report.room _) s.h s.arena.now in
    line_answered s.line.now (room _) s.h s.arena.now c.tell-in-Room.result c.tell-in-Room.new.out
    c.in-Some.ensures c.in-Room.is refl refl (c.room-answer.ensures, y.0, y.1) c.tell-in-Room.ensures

pub returns-in_default : goal.returns-in_default
unfolding reply
returns-in_default c =
    rw (← c.in_default.ensures) (refl, rw c.put_line.ensures (line_front _ 0 0 _), refl, search rules)
