mod KernelsFacts
mod OperandsFacts
mod RowsFacts
mod StripsFacts
mod WholeFacts
