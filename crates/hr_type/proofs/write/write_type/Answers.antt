use Rattle.std.proofs.Common.{◌∙◌}
use Rattle.hr_type.proofs.Jobbing.{job_smaller, job_done}
use Rattle.hr_type.proofs.write.write_type.Goals as goal

pub loop-job-smaller : goal.loop-job-smaller
loop-job-smaller c = job_smaller _ _ _ _ c.in-Some.ensures.items c.in_ok-do_job.ensures.work

pub loop-job-preserved : goal.loop-job-preserved
loop-job-preserved c = c.in_ok-do_job.ensures.text ∙ job_done c.args.scope.now _ _ _ _ c.in-Some.ensures.items ∙ c.loop-job.invariant
