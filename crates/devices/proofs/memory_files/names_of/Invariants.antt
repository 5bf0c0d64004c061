use Rattle.std.proofs.Common.{◌≡◌, drop, map}
use Rattle.devices.specs.MemoryFiles.{beside}
use Rattle.devices.proofs.memory_files.names_of.Given as goal

-- the name has what it has among the folders that are left
abbrev pub invariant-loop-held : goal.invariant-loop-held
invariant-loop-held l = beside (map (λ folder. (folder.0.now, map (λ n. n.now) folder.1.now)) (drop l.held-index l.folders)) l.name ≡ beside (map (λ folder. (folder.0.now, map (λ n. n.now) folder.1.now)) l.folders) l.name
