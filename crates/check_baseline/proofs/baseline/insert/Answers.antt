use Rattle.std.proofs.Common.{string_bytes}
use Rattle.std.proofs.lemmas.Map.Text.{hash_set_updates_text}
use Rattle.check_baseline.proofs.baseline.insert.Goals as goal

pub returns : goal.returns
returns c = hash_set_updates_text (string_bytes c.args.word) c.args.words.now c.insert.new.self _ c.in_ok-insert.ensures.updates
