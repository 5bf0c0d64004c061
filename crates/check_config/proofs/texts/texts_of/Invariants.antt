use Rattle.std.proofs.Common.{◌≡◌, drop}
use Rattle.toml.specs.View.{items_view}
use Rattle.check_config.specs.Config.{texts_of}
use Rattle.check_config.proofs.TextSteps.{after}
use Rattle.check_config.proofs.texts.texts_of.Given as goal

-- what was read, and what is read of the rest, is what is read of all
abbrev pub invariant-loop-item : goal.invariant-loop-item
invariant-loop-item l = after l.texts (drop l.item-index l.items) ≡ texts_of (items_view l.items)
