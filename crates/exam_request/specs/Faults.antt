-- The numbers by which the faults of a request are answered.
use Rattle.std.specs.Prelude.{ℕ}
use Rattle.exam_request.specs.declared.fault.Fault.{Fault}
use Rattle.exam_request.specs.declared.fault.Fault.TheVariants.{Head, Host, Length, Size, TransferCoding, Body, Route}
use Rattle.exam_request.specs.declared.fault.Fault.TheVariants.{Method}

-- 31 to 38
abbrev pub fault_number : Fault → ℕ
fault_number Head = 31
fault_number Host = 32
fault_number Length = 33
fault_number Size = 34
fault_number TransferCoding = 35
fault_number Body = 36
fault_number Route = 37
fault_number Method = 38
