use Rattle.law_edit_types.proofs.Runs.{run_becomes_word}
use Rattle.law_edit_types.proofs.laws.runs_become_words.Goals as goal

pub returns : goal.returns
returns c = run_becomes_word
