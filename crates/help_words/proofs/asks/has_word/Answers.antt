use Rattle.std.proofs.Common.{sym}
use Rattle.std.specs.Str.{bytes_eq}
use Rattle.squawk_run.proofs.Search.{found_in, none_next}
use Rattle.help_words.proofs.asks.has_word.Goals as goal

pub returns-then-eq : goal.returns-then-eq
returns-then-eq c =
    sym (found_in (λ word. bytes_eq word c.args.wanted.now) c.args.words.now c.loop-i.i c.get.result.now c.get.ensures (sym c.if-eq.ensures))

pub loop-i-preserved : goal.loop-i-preserved
loop-i-preserved c = none_next (λ word. bytes_eq word c.args.wanted.now) c.args.words.now c.loop-i.i c.get.result.now c.loop-i.invariant c.get.ensures (sym c.if-eq.ensures)
