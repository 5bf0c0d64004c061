use Rattle.std.proofs.Common.{◌≡◌, map, string_bytes, take}
use Rattle.devices.proofs.memory_files.copied.Given as goal

-- the names so far are copied
abbrev pub invariant-loop-name : goal.invariant-loop-name
invariant-loop-name l = map string_bytes l.all.items ≡ map (λ name. name.now) (take l.name-index l.names)
