-- What a block makes, as the rules have it.
use Rattle.std.specs.Prelude.{ℕ, List}
use Rattle.rules.specs.Operations.{Operation, select_byte, writes, reads, operations_of}
use Rattle.passthrough.specs.declared.blocks.Access.{Access}
use Rattle.passthrough.specs.declared.blocks.Access.TheVariants.{Write, Read}
use Rattle.passthrough.specs.declared.blocks.ActionBit.{ActionBit}
use Rattle.passthrough.specs.declared.blocks.ActionBit.TheVariants.{TaskFileRead, DeviceSelectionOverride, PollAltStatOverride, PErrorOverride, DErrorOverride, DevOverride, UdmaCommand, IdentifyPacketDevice}
use Rattle.passthrough.specs.declared.blocks.Block.{Block}

-- the place of a bit of the action
abbrev pub bit_number : ActionBit → ℕ
bit_number TaskFileRead = 0
bit_number DeviceSelectionOverride = 1
bit_number PollAltStatOverride = 2
bit_number PErrorOverride = 3
bit_number DErrorOverride = 4
bit_number DevOverride = 5
bit_number UdmaCommand = 6
bit_number IdentifyPacketDevice = 7

-- the writes or reads of the selected ones of these registers
abbrev pub accesses : Access → List ℕ → List ℕ → List Operation
accesses Write = writes
accesses Read = reads

-- the operand of its select
abbrev pub select_of : Block → ℕ
select_of b = select_byte b.lun b.bytes.now

abbrev pub made_of : Block → List Operation
made_of b = operations_of b.lun b.bytes.now b.expected b.direction
