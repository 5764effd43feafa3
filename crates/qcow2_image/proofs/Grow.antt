pub mod NewL1Table
pub mod NamedL1Table
pub mod ReplacedL1Table
pub mod GrownByParts
pub mod L1Lengths
