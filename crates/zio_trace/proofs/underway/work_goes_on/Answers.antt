use Rattle.zio_trace.proofs.UnderwayDone.{work_finds, work_on_leaf, work_takes}
use Rattle.zio_trace.proofs.UnderwayHears.{work_arrives, work_ends, work_task_ends, work_tells}
use Rattle.zio_trace.proofs.UnderwayOut.{with_flights, work_begins, work_next, work_out, work_permuted}
use Rattle.zio_trace.proofs.underway.work_goes_on.Goals as goal

pub returns : goal.returns
returns c = record {
  begins = λ w before images sound is. work_begins w before images is;
  next_task = work_next;
  hands_out = λ w before s x others op sound h is. work_out w before s x others op (with_flights w before s _ h is);
  on_leaf = λ w before s x others act a after sound h is. work_on_leaf w before s x others act a after sound (with_flights w before s _ h is);
  finds = λ w before s x others a c sound h is. work_finds w before s x others a c sound (with_flights w before s _ h is);
  takes = λ w before s x others tree sound h is. work_takes w before s x others tree sound (with_flights w before s _ h is);
  tells = λ w before s x q others n c r h is. work_tells w before s x q others n c r (with_flights w before s _ h is);
  arrives = λ w before s x q others n c v sound h is. work_arrives w before s x q others n c v (with_flights w before s _ h is);
  task_ends = λ w before s x others n c v sound h is. work_task_ends w before s x others n c v (with_flights w before s _ h is);
  in_any_order = work_permuted;
  ends = λ w before s values sound. work_ends w before s values;
}
