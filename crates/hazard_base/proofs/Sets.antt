-- Sets of hazards, by what is in them.
use Rattle.std.proofs.Common.{◌≡◌, Bool, true, false, ◌&&◌, ◌||◌, not, refl}
use Rattle.hazard_base.specs.declared.hazard.Hazard.{Hazard}
use Rattle.hazard_base.specs.declared.hazard.Hazard.TheVariants as hazard
use Rattle.hazard_base.specs.declared.hazard_set.HazardSet.{HazardSet}
use Rattle.hazard_base.specs.Hazards.{same_hazard}
use Rattle.hazard_base.specs.HazardSets.{has, with_hazard}

pub has_one_more : (set : HazardSet) (h q : Hazard) → has (with_hazard set h true) q ≡ (same_hazard q h || has set q)
unfolding same_hazard
has_one_more set hazard.StatementInTransaction hazard.StatementInTransaction = refl
has_one_more set hazard.StatementInTransaction _ = refl
has_one_more set hazard.TableRewrite hazard.TableRewrite = refl
has_one_more set hazard.TableRewrite _ = refl
has_one_more set hazard.ColumnWithCheck hazard.ColumnWithCheck = refl
has_one_more set hazard.ColumnWithCheck _ = refl
has_one_more set hazard.BuildUnderTimeout hazard.BuildUnderTimeout = refl
has_one_more set hazard.BuildUnderTimeout _ = refl
has_one_more set hazard.InvalidIndexKept hazard.InvalidIndexKept = refl
has_one_more set hazard.InvalidIndexKept _ = refl
has_one_more set hazard.RefreshBlocksReads hazard.RefreshBlocksReads = refl
has_one_more set hazard.RefreshBlocksReads _ = refl
has_one_more set hazard.JsonColumn hazard.JsonColumn = refl
has_one_more set hazard.JsonColumn _ = refl

pub has_one_less : (set : HazardSet) (h q : Hazard) → has (with_hazard set h false) q ≡ (not (same_hazard q h) && has set q)
unfolding same_hazard
has_one_less set hazard.StatementInTransaction hazard.StatementInTransaction = refl
has_one_less set hazard.StatementInTransaction _ = refl
has_one_less set hazard.TableRewrite hazard.TableRewrite = refl
has_one_less set hazard.TableRewrite _ = refl
has_one_less set hazard.ColumnWithCheck hazard.ColumnWithCheck = refl
has_one_less set hazard.ColumnWithCheck _ = refl
has_one_less set hazard.BuildUnderTimeout hazard.BuildUnderTimeout = refl
has_one_less set hazard.BuildUnderTimeout _ = refl
has_one_less set hazard.InvalidIndexKept hazard.InvalidIndexKept = refl
has_one_less set hazard.InvalidIndexKept _ = refl
has_one_less set hazard.RefreshBlocksReads hazard.RefreshBlocksReads = refl
has_one_less set hazard.RefreshBlocksReads _ = refl
has_one_less set hazard.JsonColumn hazard.JsonColumn = refl
has_one_less set hazard.JsonColumn _ = refl

pub same : (a b : HazardSet) → ((h : Hazard) → has a h ≡ has b h) → a ≡ b
same a b e = λ i. record {
  statement_in_transaction = e hazard.StatementInTransaction i;
  table_rewrite = e hazard.TableRewrite i;
  column_with_check = e hazard.ColumnWithCheck i;
  build_under_timeout = e hazard.BuildUnderTimeout i;
  invalid_index_kept = e hazard.InvalidIndexKept i;
  refresh_blocks_reads = e hazard.RefreshBlocksReads i;
  json_column = e hazard.JsonColumn i;
}
