use Rattle.std.proofs.Common.{◌∷◌, sym, ◌∙◌}
use Rattle.report_lines.specs.Fronts.{with_more}
use Rattle.report_lines.proofs.Fronts.{front_stays as law}
use Rattle.report_lines.proofs.Same.{report_is}
use Rattle.report_lines.proofs.laws.what_was_reported_stays.Goals as goal

pub returns : goal.returns
returns _ = λ c item more count ordered all. report_is (with_more c (item ∷ more)) count ∙ law c item more count ordered all ∙ sym (report_is c count)
