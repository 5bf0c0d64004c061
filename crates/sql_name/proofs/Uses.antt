-- The lemmas that functions use.
use Rattle.std.proofs.lemmas.List.{take_all, take-map, length-map}
use Rattle.sql_name.proofs.FullText.{length-full_name}

pub ruleset whole_uses = (take_all, length-full_name)

pub ruleset word_uses = (take-map, take_all, length-map)
