-- To be believed. How faults of the parts are told.
use Rattle.iso_lexer.specs.declared.whole.ReadFault.{ReadFault}
use Rattle.iso_lexer.specs.declared.whole.ReadFault.TheVariants as read_faults
use Rattle.spec_parser.specs.declared.fault.SpecFault.{SpecFault}
use Rattle.spec_parser.specs.declared.fault.SpecFault.TheVariants as spec_faults
use Rattle.report_text.specs.declared.fault.ReportFault.{ReportFault}
use Rattle.report_text.specs.declared.fault.ReportFault.TheVariants as report_faults
use Rattle.session_machine.specs.declared.fault.EngineFault.TheVariants as engine_faults
use Rattle.session_seats.specs.declared.fault.ThreadFault.{ThreadFault}
use Rattle.session_seats.specs.declared.fault.ThreadFault.TheVariants as thread_faults
use Rattle.spec_files.specs.declared.fault.RunFault.{RunFault}
use Rattle.spec_files.specs.declared.fault.RunFault.TheVariants as faults

abbrev pub read_fault : ReadFault → RunFault
read_fault read_faults.Memory = faults.Memory
read_fault read_faults.Device = faults.Read

-- a fault of the tokens is told as such
abbrev pub spec_fault : SpecFault → RunFault
spec_fault f = elim f [ spec_faults.Memory ↦ faults.Memory | spec_faults.Lex l ↦ faults.Lex l | other ↦ faults.Spec other ]

abbrev pub report_fault : ReportFault → RunFault
report_fault report_faults.Write = faults.Write
report_fault report_faults.Memory = faults.Memory
report_fault (report_faults.SetupFailed text) = faults.SetupFailed text
report_fault report_faults.SetupWaits = faults.SetupWaits

-- want of memory is told as such, wherever a run met it
abbrev pub thread_fault : ThreadFault → RunFault
thread_fault thread_faults.Memory = faults.Memory
thread_fault (thread_faults.Engine engine_faults.Memory) = faults.Memory
thread_fault f = faults.Threads f
