use Rattle.std.proofs.Common.{◌≡◌, drop, map}
use Rattle.devices.specs.MemoryFiles.{beside}
use Rattle.devices.proofs.memory_files.bytes_of.Given as goal

-- the name has what it has among the files that are left
abbrev pub invariant-loop-held : goal.invariant-loop-held
invariant-loop-held l = beside (map (λ file. (file.0.now, file.1.now)) (drop l.held-index l.files)) l.name ≡ beside (map (λ file. (file.0.now, file.1.now)) l.files) l.name
