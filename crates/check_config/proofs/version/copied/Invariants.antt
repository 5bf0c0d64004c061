use Rattle.std.proofs.Common.{◌≡◌, map, take}
use Rattle.check_config.proofs.version.copied.Given as goal

-- the texts so far are copied
abbrev pub invariant-loop-text : goal.invariant-loop-text
invariant-loop-text l = l.words ≡ map (λ text. text.now) (take l.text-index l.texts)
