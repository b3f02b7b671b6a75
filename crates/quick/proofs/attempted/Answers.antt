-- A page that is not exec page 0 and that a cell holds is looked up in that cell alone.
use Rattle.std.proofs.Common.{◌∙◌, ap, sym}
use Rattle.rules.specs.declared.Cell.{Cell}
use Rattle.rules.specs.Maps.{exec_zero, tag_of, cell_of}
use Rattle.quick.proofs.Sounds.{attempt_owed}
use Rattle.quick.proofs.attempted.Goals as goal

pub returns : goal.returns
returns c =
    let a = c.args in
    let k = a.k.now in
    let user = a.c.ktcs.um in
    let page = c.page_of-p.ensures.0 in
    λ yes.
    attempt_owed a.m.now a.q _ a.c yes k _ _
    (sym (c.exec_zero.ensures ∙ ap (exec_zero user) page) ∙ c.if-exec_zero.false)
    (sym (c.cell_of.ensures ∙ ap (cell_of k) (c.tag_of.ensures ∙ ap (tag_of user) page)) ∙ c.in_ok-i.was)
    (ap (λ (x : Cell). x.word) c.cell_at.ensures) c.held.ensures
