pub mod DcBlock
