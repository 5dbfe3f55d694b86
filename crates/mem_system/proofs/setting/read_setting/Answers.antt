use Rattle.std.proofs.Common.{ap, Err, subst, sym}
use Rattle.std.proofs.lemmas.Result.{err_from_is_err_and}
use Rattle.control_files.specs.declared.file.File.TheVariants.{Max, High, Low, Min, OomGroup, Reclaim}
use Rattle.group_tree.specs.declared.fault.Fault.{Fault}
use Rattle.mem_system.specs.Settings.{RefusesValue}
use Rattle.mem_system.proofs.Writing.{refused}
use Rattle.mem_system.proofs.setting.read_setting.Goals as goal

pub returns-in_err-read_limit-in-Max : goal.returns-in_err-read_limit-in-Max
returns-in_err-read_limit-in-Max c =
    let told = c.in_err-read_limit-in-Max.ensures in
    let p = err_from_is_err_and c.from_residual.result c.from_residual.ensures.1 in
    rw (p.1, p.2, c.in-Max.is)
    (refused Max c.args.value.now c.in_err-read_limit-in-Max.field-0.0 told.err (λ e. told.bad_number.0 (ap Err e)) (λ e. told.bad_limit.0 (ap Err e)))

pub returns-in_err-read_limit-in-High : goal.returns-in_err-read_limit-in-High
returns-in_err-read_limit-in-High c =
    let told = c.in_err-read_limit-in-High.ensures in
    let p = err_from_is_err_and c.from_residual-in_err-read_limit-in-High.result c.from_residual-in_err-read_limit-in-High.ensures.1 in
    rw (p.1, p.2, c.in-High.is)
    (refused High c.args.value.now c.in_err-read_limit-in-High.field-0.0 told.err (λ e. told.bad_number.0 (ap Err e)) (λ e. told.bad_limit.0 (ap Err e)))

pub returns-in_err-read_limit-in-Low : goal.returns-in_err-read_limit-in-Low
returns-in_err-read_limit-in-Low c =
    let told = c.in_err-read_limit-in-Low.ensures in
    let p = err_from_is_err_and c.from_residual-in_err-read_limit-in-Low.result c.from_residual-in_err-read_limit-in-Low.ensures.1 in
    rw (p.1, p.2, c.in-Low.is)
    (refused Low c.args.value.now c.in_err-read_limit-in-Low.field-0.0 told.err (λ e. told.bad_number.0 (ap Err e)) (λ e. told.bad_limit.0 (ap Err e)))

pub returns-in_err-read_limit-in-Min : goal.returns-in_err-read_limit-in-Min
returns-in_err-read_limit-in-Min c =
    let told = c.in_err-read_limit-in-Min.ensures in
    let p = err_from_is_err_and c.from_residual-in_err-read_limit-in-Min.result c.from_residual-in_err-read_limit-in-Min.ensures.1 in
    rw (p.1, p.2, c.in-Min.is)
    (refused Min c.args.value.now c.in_err-read_limit-in-Min.field-0.0 told.err (λ e. told.bad_number.0 (ap Err e)) (λ e. told.bad_limit.0 (ap Err e)))

pub returns-in_err-read_amount-in-Reclaim : goal.returns-in_err-read_amount-in-Reclaim
returns-in_err-read_amount-in-Reclaim c =
    let told = c.in_err-read_amount-in-Reclaim.ensures in
    let p = err_from_is_err_and c.from_residual-in_err-read_amount-in-Reclaim.result c.from_residual-in_err-read_amount-in-Reclaim.ensures.1 in
    rw (p.1, p.2, c.in-Reclaim.is)
    (refused Reclaim c.args.value.now c.in_err-read_amount-in-Reclaim.field-0.0 told.err (λ e. told.bad_number.0 (ap Err e)) (λ e. told.bad_limit.0 (ap Err e)))

pub returns-in_err-read_flag-in-OomGroup : goal.returns-in_err-read_flag-in-OomGroup
returns-in_err-read_flag-in-OomGroup c =
    let told = c.in_err-read_flag-in-OomGroup.ensures in
    let p = err_from_is_err_and c.from_residual-in_err-read_flag-in-OomGroup.result c.from_residual-in_err-read_flag-in-OomGroup.ensures.1 in
    rw (p.1, p.2, c.in-OomGroup.is)
    (subst (λ (f : Fault). RefusesValue OomGroup c.args.value.now f) (sym told.err) (told.bad_limit.0 (ap Err told.err)))
