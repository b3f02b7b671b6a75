-- A fetch whose word is allowed passes step 11: the word read is noted, and nothing else is done.
use Rattle.std.proofs.Common.{◌∙◌, ap, sym}
use Rattle.rules.specs.Memory.{word_at}
use Rattle.rules.specs.Unit.{with_fetch}
use Rattle.quick.proofs.Sounds.{fetch_owed}
use Rattle.quick.proofs.fetch_ended.Goals as goal

pub returns : goal.returns
unfolding with_fetch
returns c =
    λ k. fetch_owed _ _ _ k _ _ _ _ _ (c.word_at-w.ensures ∙ ap (word_at _) c.even_of.ensures) (sym c.forbidden.ensures ∙ c.if-forbidden.false) (simp (c.after_fetch-fetch.ensures, c.public_bit.ensures)) c.ended.ensures
