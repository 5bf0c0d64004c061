use Rattle.std.proofs.Common.{◌≡◌, drop}
use Rattle.sql_tree.specs.Forms.{after_words}
use Rattle.sql_form.proofs.reader.after_words.Given as goal

abbrev pub invariant-loop-word : goal.invariant-loop-word
invariant-loop-word l = after_words (drop l.word-index l.words) l.here ≡ after_words l.words l.left
