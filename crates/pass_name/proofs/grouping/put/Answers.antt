use Rattle.std.proofs.Common.{◌∙◌, sym, ap, map}
use Rattle.indexmap.specs.IndexMap.{insert_entry}
use Rattle.lint_pass.specs.sql_name.Compared.{name_eq}
use Rattle.pass_name.specs.Entries.{entry_seen}
use Rattle.pass_name.proofs.EntryLaws.{put-written, put-opened}
use Rattle.pass_name.proofs.grouping.put.Goals as goal

pub returns-in_ok-push-in-Some : goal.returns-in_ok-push-in-Some
returns-in_ok-push-in-Some c =
    ap (map entry_seen) (c.get_mut.follows.holds c.push.new.self).0
    ∙ put-written c.args.name c.args.member c.args.by_name.now.entries c.in-Some.alike.now c.push.new.self (sym c.in-Some.ensures.value) c.in_ok-push-in-Some.ensures.items

pub returns-in_ok-insert-in-None : goal.returns-in_ok-insert-in-None
returns-in_ok-insert-in-None c =
    ap (map entry_seen) c.in_ok-insert-in-None.ensures.entries
    ∙ ap (λ m. map entry_seen (insert_entry name_eq m.entries c.args.name c.in_ok-vec-in-None.field-0)) c.get_mut.follows.holds-at-none
    ∙ put-opened c.args.name c.args.member c.args.by_name.now.entries c.in_ok-vec-in-None.field-0 (sym c.in-None.ensures.value) c.in_ok-vec-in-None.ensures.items
