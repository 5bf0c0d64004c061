use Rattle.std.proofs.Common.{◌≡◌, cond, subst, string_bytes, true, ℕ, List}
use Rattle.std.proofs.lemmas.Map.Text.{btree_set_updates_text}
use Rattle.std.specs.BTreeSet.{contains_text}
use Rattle.std.specs.Str.{bytes_eq}
use Rattle.file_choice.proofs.choice.is_first.Goals as goal

pub returns-clause-seen : goal.returns-clause-seen
returns-clause-seen c =
    let key = c.in_ok-key.key in
    let same : string_bytes key ≡ c.args.name.now = c.in_ok-key.ensures.ok in
    λ other. subst (λ (bytes : List ℕ). contains_text c.insert.new.self other ≡ cond (bytes_eq bytes other) true (contains_text c.args.seen.now other)) same
    (btree_set_updates_text (string_bytes key) c.args.seen.now c.insert.new.self true c.in_ok-insert.ensures.updates other)
