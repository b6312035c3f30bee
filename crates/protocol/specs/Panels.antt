-- For who keeps the register: a block of it made from a service and a callback, and the first block at fault of a register that is refused.
use Rattle.std.specs.Prelude.{Bool, ◌&&◌, ◌||◌, not, List, ℕ, zero, suc, ◌+◌, ◌*◌, ◌/◌, eqb, length, take}
use Rattle.protocol.specs.Bytes.{if, same, part}
use Rattle.protocol.specs.Register.{Entry, encode_entry, decode_entry, decode_register, entry_right, register_shape, register_lawful, registered}
use Rattle.protocol.specs.Calls.{unless}
use Rattle.protocol.specs.declared.Fault.{Fault}

-- panel: refusals 3, where an entry of these texts breaks a rule, and 4, where the buffer is not a block

abbrev pub entry : List ℕ → List ℕ → Entry
entry service callback = record { service = service; callback = callback }

unfoldable pub panel_refusal : List ℕ → List ℕ → ℕ → ℕ
panel_refusal service callback size = unless (entry_right (entry service callback)) 3 (unless (eqb size 512) 4 0)

-- the number, and the block after the call
pub record Made : Type 0 where
  pub refusal : ℕ
  pub block : List ℕ

abbrev pub made : ℕ → List ℕ → Made
made n block = record { refusal = n; block = block }

unfoldable pub panel_of : List ℕ → List ℕ → List ℕ → Made
panel_of service callback block =
    if (eqb (panel_refusal service callback (length block)) 0)
    (made 0 (encode_entry (entry service callback)))
    (made (panel_refusal service callback (length block)) block)

-- check_register: refusal 3, by the same rules as answer's

-- a block is that of an entry that keeps the rules, its check and zeros too
unfoldable pub panel_right : List ℕ → Bool
panel_right b = same b (encode_entry (decode_entry b)) && entry_right (decode_entry b)

-- the service that block k of a register says, the first block being 0
unfoldable pub service_in : List ℕ → ℕ → List ℕ
service_in b k = (decode_entry (part (512 * k) 512 b)).service

-- block k is at fault: it is not that of an entry that keeps the rules, or its service stands in an earlier block
unfoldable pub at_fault : List ℕ → ℕ → Bool
at_fault b k = not (panel_right (part (512 * k) 512 b)) || registered (service_in b k) (decode_register (take (512 * k) b))

-- the first at fault of m blocks from k on; the one after them where there is none
unfoldable pub fault_from : ℕ → ℕ → List ℕ → ℕ
fault_from k zero b = k
fault_from k (suc m) b = if (at_fault b k) k (fault_from (k + 1) m b)

-- 3 and the first block at fault, which is block 0 where the length is wrong; 0 and 0 for a lawful register
abbrev pub fault : ℕ → ℕ → Fault
fault n k = record { refusal = n; block = k }

unfoldable pub fault_of : List ℕ → Fault
fault_of b = if (register_lawful b) (fault 0 0) (fault 3 (if (register_shape (length b)) (fault_from 0 (length b / 512) b) 0))
