use Rattle.report_text.specs.FaultText.{fault_text}
use Rattle.report_text.proofs.Pushing.{pushed2}
use Rattle.report_text.proofs.fault_text.push_fault.Goals as goal

pub returns-in_ok-push_relation-in-TableExists : goal.returns-in_ok-push_relation-in-TableExists
unfolding fault_text
returns-in_ok-push_relation-in-TableExists c =
    rw c.in-TableExists.is (pushed2 _ _ _ _ _ _ c.in_ok-push_relation-in-TableExists.ensures c.push-in-TableExists.ensures.bytes)

pub returns-in-TooManyValues : goal.returns-in-TooManyValues
unfolding fault_text
returns-in-TooManyValues c = rw c.in-TooManyValues.is c.push-in-TooManyValues.ensures.bytes

pub returns-in-NotSerializable : goal.returns-in-NotSerializable
unfolding fault_text
returns-in-NotSerializable c = rw c.in-NotSerializable.is c.push-in-NotSerializable.ensures.bytes

pub returns-in-Deadlock : goal.returns-in-Deadlock
unfolding fault_text
returns-in-Deadlock c = rw c.in-Deadlock.is c.push-in-Deadlock.ensures.bytes

pub returns-in-Aborted : goal.returns-in-Aborted
unfolding fault_text
returns-in-Aborted c = rw c.in-Aborted.is c.push-in-Aborted.ensures.bytes

pub returns-in-LevelTooLate : goal.returns-in-LevelTooLate
unfolding fault_text
returns-in-LevelTooLate c = rw c.in-LevelTooLate.is c.push-in-LevelTooLate.ensures.bytes
