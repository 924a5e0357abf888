-- What crosses to the host of an answer of `read_records`.
use Rattle.std.specs.Prelude.{ℕ, ◌≡◌, List, Result, Ok, Err}
use Rattle.kernel_touch.specs.declared.answer.KernelRefusal.{KernelRefusal}
use Rattle.kernel_touch.specs.declared.answer.Taken.{Taken}
use Rattle.kernel_touch.specs.declared.slots.KernelTouches.{KernelTouches}
use Rattle.kernel_read.specs.Read.{KernelRead, kernel_row, Reads}
use Rattle.host_kernel.specs.declared.HostKernelRead.{HostKernelRead}

abbrev pub Answers : Result Taken KernelRefusal → HostKernelRead → Type 0
Answers (Ok t) r = (r.number ≡ 0) × (r.words ≡ t.words) × (r.dropped ≡ t.dropped)
Answers (Err q) r = r.number ≡ (kernel_row q).number

pub record Crosses (read : KernelRead) (r : HostKernelRead) : Type 0 where
  pub kernel : r.kernel ≡ read.kernel
  pub answer : Answers read.answer r

-- the call: `read_records`'s promise, and what crosses of its answer
pub record HostReads (k : KernelTouches) (device : ℕ) (bytes feed : List ℕ) (r : HostKernelRead) (feed' : List ℕ) : Type 0 where
  pub read : KernelRead
  pub reads : Reads k device bytes feed read feed'
  pub crosses : Crosses read r
