use Rattle.std.proofs.Common.{◌≡◌, ◌+◌, ◌-◌, arith, subst, sym, string_bytes, ℕ, List, suc, Some, None}
use Rattle.config_file.specs.Found.{IsFound, most_folders}
use Rattle.config_file.proofs.Upwards.{found_above, found_here, none_above, nothing_left}
use Rattle.config_file.proofs.find.found.Goals as goal

pub returns-then-has_config : goal.returns-then-has_config
returns-then-has_config g c =
    let l = c.loop-turn in
    let content = g.F.FileStore.content c.args.files.now in
    let name = string_bytes c.in_ok-name.name in
    l.invariant (Some name) (found_here content (most_folders - l._turn) (string_bytes l.folder) name name c.has-has_config.result (omega arith) c.in_ok-name.ensures c.in_ok-name.ensures c.if-has_config.true c.has-has_config.ensures)

pub returns-then-has_top : goal.returns-then-has_top
returns-then-has_top g c =
    let l = c.loop-turn in
    let content = g.F.FileStore.content c.args.files.now in
    l.invariant None
    (none_above content (most_folders - l._turn) (string_bytes l.folder) (string_bytes c.in_ok-name.name) (string_bytes c.in_ok-top.top) c.has-has_config.result c.has-has_top.result (omega arith)
    c.in_ok-name.ensures c.in_ok-top.ensures c.if-has_config.false c.if-has_top.true c.has-has_config.ensures c.has-has_top.ensures)

pub loop-turn-preserved : goal.loop-turn-preserved
loop-turn-preserved g c =
    let l = c.loop-turn in
    let content = g.F.FileStore.content c.args.files.now in
    let folder = string_bytes l.folder in
    let left : most_folders - l._turn ≡ suc (most_folders - (l._turn + 1)) = omega arith in
    λ found later. l.invariant found
    (subst (λ (n : ℕ). IsFound content n folder found) (sym left)
    (found_above content (most_folders - (l._turn + 1)) folder (string_bytes c.in_ok-name.name) (string_bytes c.in_ok-top.top) (string_bytes c.push_str.new.self) c.has-has_config.result c.has-has_top.result found
    c.in_ok-name.ensures c.in_ok-top.ensures c.in_ok-push_str.ensures.bytes c.if-has_config.false c.if-has_top.false c.has-has_config.ensures c.has-has_top.ensures later))

pub returns : goal.returns
returns g c =
    let l = c.loop-turn in
    let none : most_folders - l._turn ≡ 0 = omega arith in
    l.invariant None (nothing_left (g.F.FileStore.content c.args.files.now) (most_folders - l._turn) (string_bytes l.folder) none)

pub loop-turn-init : goal.loop-turn-init
loop-turn-init g c = λ name h. subst (λ (folder : List ℕ). IsFound (g.F.FileStore.content c.args.files.now) most_folders folder name) c.in_ok-folder.ensures.ok h
