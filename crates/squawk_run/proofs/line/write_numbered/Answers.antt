use Rattle.std.proofs.Common.{◌≡◌, ◌++◌, codes, decimal, subst, ◌∙◌}
use Rattle.std.specs.Io.KnownBytes.{Appends}
use Rattle.std.proofs.KnownBytes.{Appends-trans}
use Rattle.devices.specs.Parts.{AppendsPart}
use Rattle.devices.proofs.PartLaws.{part_more, part_after, part_whole}
use Rattle.squawk_run.proofs.line.write_numbered.Goals as goal

pub returns-in_err-write_all-clause-part : goal.returns-in_err-write_all-clause-part
returns-in_err-write_all-clause-part g c =
    part_more _ _ (c.args.text.now ++ decimal c.args.number) (codes "\n") (part_more _ _ c.args.text.now (decimal c.args.number) c.write_all.ensures.part)

pub returns-in_err-write_all-2-clause-part : goal.returns-in_err-write_all-2-clause-part
returns-in_err-write_all-2-clause-part g c =
    let e : c.as_bytes.result.now ≡ decimal c.args.number = c.as_bytes.ensures.value ∙ c.format.ensures.text in
    let p = subst (AppendsPart _ _) e c.write_all-2.ensures.part in
    part_more _ _ (c.args.text.now ++ decimal c.args.number) (codes "\n") (part_after _ _ _ c.args.text.now (decimal c.args.number) c.in_ok-write_all.ensures.whole p)

pub returns-in_err-write_all-3-clause-part : goal.returns-in_err-write_all-3-clause-part
returns-in_err-write_all-3-clause-part g c =
    let e : c.as_bytes.result.now ≡ decimal c.args.number = c.as_bytes.ensures.value ∙ c.format.ensures.text in
    let p = subst (Appends _ _) e c.in_ok-write_all-2.ensures.whole in
    part_after _ _ _ (c.args.text.now ++ decimal c.args.number) (codes "\n") (Appends-trans _ _ _ _ _ c.in_ok-write_all.ensures.whole p) c.write_all-3.ensures.part

pub returns-clause-whole : goal.returns-clause-whole
returns-clause-whole g c =
    let e : c.as_bytes.result.now ≡ decimal c.args.number = c.as_bytes.ensures.value ∙ c.format.ensures.text in
    let p = subst (Appends _ _) e c.in_ok-write_all-2.ensures.whole in
    Appends-trans _ _ _ (c.args.text.now ++ decimal c.args.number) (codes "\n") (Appends-trans _ _ _ _ _ c.in_ok-write_all.ensures.whole p) c.in_ok-write_all-3.ensures.whole

pub returns-clause-part : goal.returns-clause-part
returns-clause-part g c =
    let e : c.as_bytes.result.now ≡ decimal c.args.number = c.as_bytes.ensures.value ∙ c.format.ensures.text in
    let p = subst (Appends _ _) e c.in_ok-write_all-2.ensures.whole in
    part_whole _ _ _ (Appends-trans _ _ _ (c.args.text.now ++ decimal c.args.number) (codes "\n") (Appends-trans _ _ _ _ _ c.in_ok-write_all.ensures.whole p) c.in_ok-write_all-3.ensures.whole)
