mod Begun
mod Bytes
mod Going
mod Remarks
mod Among
mod Declared
mod References
mod Values
mod Tags
mod Doctypes
mod Declarations
mod Several
mod Kept
pub mod Held
mod Ends
mod Traps
pub mod Begins
mod ReferenceTraps
pub mod ValueTraps
mod WordTraps
mod OpenTraps
mod Wide
mod Refusals
pub mod Halts
