use Rattle.std.proofs.Common.{◌≡◌, ℕ, map, take, Vec}
use Rattle.std.specs.declared.alloc.Global.{Global}
use Rattle.cafile.specs.declared.identify.PathContent.{PathContent}
use Rattle.cafile.proofs.identify.load_contents.Given as goal

-- the paths so far
abbrev pub invariant-paths : goal.invariant-paths
invariant-paths g l = map (λ (f : PathContent). f.path.now) l.loaded.items ≡ map (λ (p : Vec ℕ Global). p.items) (take l.path-index l.paths)
