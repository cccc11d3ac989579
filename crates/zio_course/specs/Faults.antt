-- Why a run was stopped, by why a round was.
use Rattle.zio_report.specs.declared.report.RunFault.{RunFault}
use Rattle.zio_report.specs.declared.report.RunFault.TheVariants.{Device, Memory}
use Rattle.zio_course.specs.declared.runner.Stop.{Stop}
use Rattle.zio_course.specs.declared.runner.Stop.TheVariants.{Device as DeviceStops, Memory as NoMemory}

abbrev pub fault_of : Stop → RunFault
fault_of DeviceStops = Device
fault_of NoMemory = Memory
